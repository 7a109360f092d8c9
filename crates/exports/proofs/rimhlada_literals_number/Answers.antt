-- By the fourth number.
-- Assumes nothing.
use Rattle.exports.proofs.RecordLaws.{unknown-number, known-number}
use Rattle.exports.proofs.rimhlada_literals_number.Goals as goal

pub returns-in_default : goal.returns-in_default
returns-in_default c = unknown-number _ _ _ c.in_default.ensures _ c.side_number.ensures

pub returns : goal.returns
returns c = known-number _ _ _ c.in-Some.ensures.0 _ c.in-Some.ensures.1 _ c.literals_number.ensures
