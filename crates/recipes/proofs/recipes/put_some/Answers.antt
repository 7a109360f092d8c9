-- By whether it is a literal.
-- Assumes nothing.
use Rattle.recipes.proofs.RecipeLaws.{some-low, some-high, some_is}
use native.Mathlib.Omega.{arith}
use Rattle.recipes.proofs.recipes.put_some.Goals.{then-literal-lt2-via-then-literal-lt2, then-literal-lt2-via-else-literal-lt2+then-literal-gt2047}
use Rattle.recipes.proofs.recipes.put_some.Goals as goal

pub returns-then-literal-lt2 : goal.returns-then-literal-lt2
returns-then-literal-lt2 c = λ raw h.
    elim c.then-literal-lt2.branch [
      | then-literal-lt2-via-then-literal-lt2 w ↦ some-low raw _ _ _ w.if-literal-lt2.true h
      | then-literal-lt2-via-else-literal-lt2+then-literal-gt2047 w ↦ some-high raw _ _ _ w.if-literal-gt2047.true h
    ]

pub returns : goal.returns
returns c = λ raw h. some_is raw _ _ _ (omega arith) (omega arith) (c.put_literal.ensures raw h)
