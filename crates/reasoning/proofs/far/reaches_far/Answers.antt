-- The clause has x, and is not within n.
-- Assumes nothing.
use Rattle.std.proofs.Common.{◌∙◌}
use Rattle.permits.proofs.PlaceLaws.{good-entries}
use Rattle.reasoning.proofs.FarLaws.{reaches-is, reaches-not}
use Rattle.reasoning.proofs.far.reaches_far.Goals as goal

pub returns-then-has_variable : goal.returns-then-has_variable
returns-then-has_variable c = λ p e g b. reaches-is _ _ _ c.has_variable.ensures c.if-has_variable.true p _ _ (c.is_within.ensures p e g) (good-entries p g) b

pub returns-else-has_variable : goal.returns-else-has_variable
returns-else-has_variable c = λ p e g b. c.if-has_variable.false ∙ reaches-not _ _ _ c.has_variable.ensures c.if-has_variable.false _
