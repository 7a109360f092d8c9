-- By the place of the literal's variable.
-- Assumes nothing.
use native.Mathlib.Omega.{arith}
use Rattle.recipes.proofs.RecipeLaws.{place-small, copied-far, copied-near}
use Rattle.recipes.proofs.recipes.copied_in.Goals as goal

pub overflow_add-at : goal.overflow_add-at
overflow_add-at c = omega (arith, place-small c.requires _ _ (c.place_of-at.ensures _ c.requires.ranked c.requires.good))

pub returns-then-place-at : goal.returns-then-place-at
returns-then-place-at c = copied-far _ _ _ _ _ (c.place_of-at.ensures _ c.requires.ranked c.requires.good) c.if-place-at.true _ c.entry_at-e.ensures

pub returns : goal.returns
returns c = copied-near _ _ _ _ _ (c.place_of-at.ensures _ c.requires.ranked c.requires.good) c.if-place-at.false
