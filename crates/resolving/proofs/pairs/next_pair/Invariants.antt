-- The loop's invariant: nothing comes of the pairs that were passed over.
-- Assumes nothing.
use Prim.Native.Nat.{◌≤◌}
use lib.ListN.{drop}
use Rattle.meaning.specs.Formula.{Formula, opposite}
use Rattle.table.specs.Table.{Holds}
use Rattle.resolving.specs.Pairs.{each_of, of_pair, Alike}
use Rattle.resolving.proofs.pairs.next_pair.Given as goal

abbrev pub invariant-loop-i : goal.invariant-loop-i
invariant-loop-i l = (l.from ≤ l.i) × (l.i ≤ l.to) × ((φ : Formula) → Holds φ l.source l.c → Alike (each_of (of_pair (opposite l.negative) l.negative l.x) (drop l.from φ.clauses)) (each_of (of_pair (opposite l.negative) l.negative l.x) (drop l.i φ.clauses)))
