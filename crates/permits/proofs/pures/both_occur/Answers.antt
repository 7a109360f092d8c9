-- By whether the plain literal occurs.
-- Assumes nothing.
use mathlib.Core.Path.{◌∙◌}
use Rattle.meaning.specs.Formula.{plain, negated}
use Rattle.permits.proofs.AndLaws.{and_second, and_none}
use Rattle.permits.proofs.pures.both_occur.Goals as goal

pub returns-then-occurs : goal.returns-then-occurs
unfolding plain negated
returns-then-occurs c = λ φ h. and_second _ _ _ _ (c.occurs.ensures φ h) c.if-occurs.true (c.occurs-then-occurs.ensures φ h)

pub returns-else-occurs : goal.returns-else-occurs
unfolding plain negated
returns-else-occurs c = λ φ h. c.if-occurs.false ∙ and_none _ _ _ (c.occurs.ensures φ h) c.if-occurs.false
