-- The loop's invariant: the front is copied, the rest is as it was.
-- Assumes nothing.
use Prim.Native.Nat.{◌≤◌}
use mathlib.Core.Path.{◌≡◌}
use mathlib.Core.List.{◌++◌}
use lib.ListN.{length, take, drop}
use Rattle.table.proofs.clauses.write_clause.Given as goal

abbrev pub invariant-loop-i : goal.invariant-loop-i
invariant-loop-i l = (l.i ≤ length l.clause) × (length l.clause ≤ length l.initial.tail) × (length l.tail ≡ length l.initial.tail) × (l.tail ≡ take l.i l.clause ++ drop l.i l.initial.tail)
