-- The loop's invariant: the clauses that are left make the whole.
-- Assumes nothing.
use Prim.Native.Nat.{◌≤◌, ◌*◌}
use mathlib.Core.Path.{◌≡◌}
use mathlib.Core.Bool.{true}
use Rattle.meaning.specs.Formula.{Formula}
use Rattle.meaning.specs.WellFormed.{well_formed}
use Rattle.table.specs.Table.{Holds}
use Rattle.table.specs.Ranks.{ranks_of}
use Rattle.growth.proofs.ExpandLoops.{Summing}
use Rattle.growth.proofs.expanded_size.Given as goal

abbrev pub invariant-loop-i : goal.invariant-loop-i
invariant-loop-i l = (l.clauses ≤ 2 * l.i)
    × (l.literals ≤ 16382 * l.i)
    × ((φ : Formula) → Holds φ l.t l.c → well_formed φ ≡ true → l.ranks ≡ ranks_of φ.prefix → Summing φ.prefix l.n l.a φ.clauses l.i l.clauses l.literals)
