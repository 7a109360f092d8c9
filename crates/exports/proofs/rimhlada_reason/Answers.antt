-- By the fourth number.
-- Assumes nothing.
use Rattle.exports.proofs.CallLaws.{no-reason, reasoned}
use Rattle.exports.proofs.rimhlada_reason.Goals as goal

pub returns-in_default : goal.returns-in_default
returns-in_default c = no-reason _ _ _ c.in_default.ensures _ c.side_number.ensures _ _

pub returns : goal.returns
returns c = reasoned _ _ _ c.in-Some.ensures.0 _ c.in-Some.ensures.1 _ _ _ _ _ _ _ _ c.reason-x.ensures _ c.reason_kind-kind.ensures c.number.ensures c.give.ensures c.reason_values.ensures
