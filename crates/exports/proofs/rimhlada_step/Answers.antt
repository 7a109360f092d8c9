-- By the fourth number.
-- Assumes nothing.
use Rattle.exports.proofs.CallLaws.{no_step, stepped}
use Rattle.exports.proofs.rimhlada_step.Goals as goal

pub returns-in_default : goal.returns-in_default
returns-in_default c = no_step _ _ _ c.in_default.ensures _ c.side_number.ensures _

pub returns : goal.returns
returns c = stepped _ _ _ c.in-Some.ensures.0 _ c.in-Some.ensures.1 _ _ _ _ _ _ c.step-x.ensures c.number.ensures c.give.ensures
