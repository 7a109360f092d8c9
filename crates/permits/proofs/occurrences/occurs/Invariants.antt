-- The loop's invariant: the clauses that are left decide whether the literal occurs.
-- Assumes nothing.
use Prim.Native.Nat.{◌≤◌}
use mathlib.Core.Path.{◌≡◌}
use lib.ListN.{drop}
use Rattle.meaning.specs.Formula.{Formula}
use Rattle.meaning.specs.Lists.{any_of, has}
use Rattle.table.specs.Table.{Holds}
use Rattle.permits.proofs.occurrences.occurs.Given as goal

abbrev pub invariant-loop-i : goal.invariant-loop-i
invariant-loop-i l = (l.i ≤ l.c.clauses) × ((φ : Formula) → Holds φ l.t l.c → any_of (has l.literal) φ.clauses ≡ any_of (has l.literal) (drop l.i φ.clauses))
