-- The loop's invariant: what is left of both clauses decides.
-- Assumes nothing.
use Prim.Native.Nat.{ℕ, ◌≤◌}
use mathlib.Core.Path.{◌≡◌}
use mathlib.Core.Bool.{true}
use mathlib.Core.List.{List}
use lib.ListN.{length}
use Rattle.meaning.specs.WellFormed.{ascends}
use Rattle.walks.specs.Walks.{some_strengthens}
use Rattle.walks.proofs.WalkLaws.{Ahead}
use Rattle.walks.proofs.strengthens_part.Given as goal

abbrev pub invariant-loop-j : goal.invariant-loop-j
invariant-loop-j l = (l.i ≤ length l.x)
    × ((p : List ℕ) → ascends l.x ≡ true → ascends l.y ≡ true → Ahead (some_strengthens p) l.x l.y l.i l.j)
