-- By the fourth number and the number of the call.
-- Assumes nothing.
use Rattle.exports.proofs.RecordLaws.{unknown-part, known-none, known-part}
use Rattle.exports.proofs.rimhlada_literals.Goals as goal

pub returns-in_default : goal.returns-in_default
returns-in_default c = unknown-part _ _ _ c.in_default.ensures

pub returns-then-number-ne0 : goal.returns-then-number-ne0
returns-then-number-ne0 c = known-none _ _ _ c.in-Some.ensures.0 _ c.in-Some.ensures.1 _ c.literals_number-number.ensures c.if-number-ne0.true

pub returns : goal.returns
returns c = known-part _ _ _ c.in-Some.ensures.0 _ c.in-Some.ensures.1 _ c.literals_number-number.ensures c.if-number-ne0.false
