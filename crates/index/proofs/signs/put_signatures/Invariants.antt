-- The loop's invariant: the clauses that are left have their signatures to come.
-- Assumes nothing.
use Prim.Native.Nat.{◌+◌, ◌≤◌}
use mathlib.Core.Path.{◌≡◌}
use lib.ListN.{length, drop}
use Rattle.meaning.specs.Formula.{Formula}
use Rattle.table.specs.Table.{Holds, Held}
use Rattle.index.specs.Index.{lists_of, index_of}
use Rattle.index.specs.Signs.{signed}
use Rattle.index.proofs.signs.put_signatures.Given as goal

abbrev pub invariant-loop-i : goal.invariant-loop-i
invariant-loop-i l = (length l.index ≡ 11261)
    × (l.start ≤ 67583)
    × Held l.t l.c
    × ((φ : Formula) → Holds φ l.t l.c → l.initial.index ≡ lists_of φ.clauses → index_of φ.clauses ≡ signed (l.start + l.i) (drop l.i φ.clauses) l.index)
