-- The loop's invariant: what is left of both clauses decides.
-- Assumes nothing.
use Prim.Native.Nat.{◌≤◌}
use mathlib.Core.Path.{◌≡◌}
use mathlib.Core.Bool.{true}
use lib.ListN.{length}
use Rattle.meaning.specs.Lists.{part_of}
use Rattle.meaning.specs.WellFormed.{ascends}
use Rattle.walks.proofs.WalkLaws.{Ahead}
use Rattle.walks.proofs.is_part.Given as goal

abbrev pub invariant-loop-k : goal.invariant-loop-k
invariant-loop-k l = (l.i ≤ length l.x) × (ascends l.x ≡ true → ascends l.y ≡ true → Ahead part_of l.x l.y l.i l.k-index)
