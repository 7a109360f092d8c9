-- The loop's invariant: the clauses that are left decide.
-- Assumes nothing.
use Prim.Native.Nat.{◌≤◌}
use mathlib.Core.Path.{◌≡◌}
use mathlib.Core.Bool.{true}
use lib.ListN.{drop}
use Rattle.meaning.specs.Formula.{Formula}
use Rattle.meaning.specs.Lists.{all_of}
use Rattle.meaning.specs.WellFormed.{well_formed}
use Rattle.table.specs.Table.{Holds}
use Rattle.table.specs.Ranks.{ranks_of}
use Rattle.permits.specs.Places.{near}
use Rattle.permits.proofs.resolution.side_within.Given as goal

abbrev pub invariant-loop-i : goal.invariant-loop-i
invariant-loop-i l = (l.i ≤ l.c.clauses) × ((φ : Formula) → Holds φ l.t l.c → well_formed φ ≡ true → l.ranks ≡ ranks_of φ.prefix → all_of (near φ.prefix l.literal l.n) φ.clauses ≡ all_of (near φ.prefix l.literal l.n) (drop l.i φ.clauses))
