-- By whether the clause has the literal.
-- Assumes nothing.
use mathlib.Core.Path.{ap, ◌∙◌}
use mathlib.Core.Bool.{not}
use Rattle.permits.proofs.SideLaws.{near-has, near-not}
use Rattle.permits.proofs.resolution.is_near.Goals as goal

pub returns-else-not-contains : goal.returns-else-not-contains
returns-else-not-contains c = λ p e g. near-has p _ _ _ _ c.contains.ensures c.if-not-contains.false _ (c.is_within.ensures p e g)

pub returns-then-not-contains : goal.returns-then-not-contains
returns-then-not-contains c = λ p e g. ap not c.if-not-contains.true ∙ near-not p _ _ _ _ c.contains.ensures c.if-not-contains.true
