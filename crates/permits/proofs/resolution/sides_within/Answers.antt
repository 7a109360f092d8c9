-- By the plain literal, then by the negated one.
-- Assumes nothing.
use mathlib.Core.Path.{◌∙◌}
use Rattle.meaning.specs.Formula.{plain, negated}
use Rattle.permits.proofs.AndLaws.{and_second, and_none}
use Rattle.permits.proofs.resolution.sides_within.Goals as goal

pub returns-then-side_within : goal.returns-then-side_within
unfolding plain negated
returns-then-side_within c = λ φ h w e. and_second _ _ _ _ (c.side_within.ensures φ h w e) c.if-side_within.true (c.side_within-then-side_within.ensures φ h w e)

pub returns-else-side_within : goal.returns-else-side_within
unfolding plain negated
returns-else-side_within c = λ φ h w e. c.if-side_within.false ∙ and_none _ _ _ (c.side_within.ensures φ h w e) c.if-side_within.false
