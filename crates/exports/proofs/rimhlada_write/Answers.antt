-- By the fourth number.
-- Assumes nothing.
use Rattle.exports.proofs.CallLaws.{no_write, wrote}
use Rattle.exports.proofs.rimhlada_write.Goals as goal

pub returns-in_default : goal.returns-in_default
returns-in_default c = no_write _ _ _ c.in_default.ensures _ c.side_number.ensures _

pub returns : goal.returns
returns c = wrote _ _ _ c.in-Some.ensures.0 _ c.in-Some.ensures.1 _ _ _ _ _ c.write-x.ensures c.number.ensures c.give.ensures
