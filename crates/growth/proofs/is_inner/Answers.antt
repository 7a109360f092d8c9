-- By whether the variable is existential.
-- Assumes nothing.
use Rattle.std.proofs.Common.{refl, ◌∙◌}
use Rattle.growth.proofs.ExpandLoops.{inner-is, inner-not}
use Rattle.growth.proofs.is_inner.Goals as goal

pub returns-then-is_existential : goal.returns-then-is_existential
returns-then-is_existential c = λ p e g. inner-is p _ _ _ refl _ (c.is_existential.ensures p e g) c.if-is_existential.true _ (c.place_of.ensures p e g)

pub returns-else-is_existential : goal.returns-else-is_existential
returns-else-is_existential c = λ p e g. c.if-is_existential.false ∙ inner-not p _ _ _ refl _ (c.is_existential.ensures p e g) c.if-is_existential.false
