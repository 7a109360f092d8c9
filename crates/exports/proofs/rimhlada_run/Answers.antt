-- By the fourth number.
-- Assumes nothing.
use Rattle.exports.proofs.CallLaws.{no_run, ran}
use Rattle.exports.proofs.rimhlada_run.Goals as goal

pub returns-in_default : goal.returns-in_default
returns-in_default c = no_run _ _ _ c.in_default.ensures _ c.side_number.ensures _ _ _

pub returns : goal.returns
returns c = ran _ _ _ c.in-Some.ensures.0 _ c.in-Some.ensures.1 _ _ _ _ _ _ _ _ _ c.run-x.ensures c.number.ensures c.give.ensures
