-- The loop's invariant: the literals so far have the clause in their lists.
-- Assumes nothing.
use Prim.Native.Nat.{ℕ}
use mathlib.Core.Path.{◌≡◌}
use mathlib.Core.List.{List}
use lib.ListN.{length}
use Rattle.index.specs.Build.{Filled, Turn}
use Rattle.index.proofs.PartlyLaws.{partly}
use Rattle.index.proofs.fill.put_clause.Given as goal

abbrev pub invariant-loop-literal : goal.invariant-loop-literal
invariant-loop-literal l = (length l.index ≡ length l.initial.index)
    × ((cs : List (List ℕ)) → Turn cs l.initial.index l.clause l.number → Filled cs (partly cs l.number l.literal-index) l.index)
