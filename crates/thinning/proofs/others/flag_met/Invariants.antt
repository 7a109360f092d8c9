-- The loop's invariant: the flags so far and the clauses that are left make the whole.
-- Assumes nothing.
use Prim.Native.Nat.{◌≤◌}
use mathlib.Core.Path.{◌≡◌}
use mathlib.Core.List.{foldl}
use lib.ListN.{drop}
use Rattle.meaning.specs.Formula.{Formula}
use Rattle.table.specs.Table.{Holds}
use Rattle.thinning.specs.Others.{near_with, met_if}
use Rattle.thinning.proofs.others.flag_met.Given as goal

abbrev pub invariant-loop-i : goal.invariant-loop-i
invariant-loop-i l = (l.i ≤ l.c.clauses) × ((φ : Formula) → Holds φ l.source l.c → foldl (met_if (near_with l.ranks l.place l.literal)) l.initial.words φ.clauses ≡ foldl (met_if (near_with l.ranks l.place l.literal)) l.words (drop l.i φ.clauses))
