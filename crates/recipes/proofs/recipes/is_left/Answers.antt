-- By the kind of turn.
-- Assumes nothing.
use Prim.Native.Nat.{ℕ}
use mathlib.Core.Logic.{◌⊎◌, inl, inr}
use Rattle.recipes.specs.declared.Turn.TheVariants.{Same, Drop, Replace}
use mathlib.Core.Path.{◌≡◌, ap}
use mathlib.Core.Bool.{not}
use borrow.Author.Tests.{eq-eqb, ne_eqb}
use Rattle.recipes.specs.Left.{left}
use Rattle.recipes.proofs.recipes.is_left.Goals as goal

pub returns-in-Same : goal.returns-in-Same
unfolding left
returns-in-Same c = go c.in-Same.is
  where
    go : (c.args.turn ≡ Same) ⊎ (((l : ℕ) × (c.args.turn ≡ Drop l)) ⊎ ((l m : ℕ) × (c.args.turn ≡ Replace l m))) → not c.has_variable.result ≡ left c.args.turn c.args.v c.args.i c.args.clause.now
    go (inl e) = rw e (ap not c.has_variable.ensures)
    go (inr (inl w)) = rw w.1 (ap not c.has_variable.ensures)
    go (inr (inr w)) = rw w.2 (ap not c.has_variable.ensures)

pub returns-then-i-b : goal.returns-then-i-b
unfolding left
returns-then-i-b c = rw (c.in-DropAt.is, ne_eqb _ _ c.if-i-b.true) (ap not c.has_variable-then-i-b.ensures)

pub returns-else-i-b : goal.returns-else-i-b
unfolding left
returns-else-i-b c = rw (c.in-DropAt.is, eq-eqb _ _ c.if-i-b.false)

pub returns-in-Copy : goal.returns-in-Copy
unfolding left
returns-in-Copy c = rw c.in-Copy.is
