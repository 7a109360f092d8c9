-- The loop's invariant: the lowest is i, and as many more as come before it in what is left.
-- Assumes nothing.
use Prim.Native.Nat.{◌+◌}
use mathlib.Core.Path.{◌≡◌}
use mathlib.Core.Bool.{true}
use lib.ListN.{drop}
use Rattle.meaning.specs.Formula.{Formula}
use Rattle.meaning.specs.WellFormed.{well_formed}
use Rattle.table.specs.Table.{Holds}
use Rattle.table.specs.Ranks.{ranks_of}
use Rattle.reasons.specs.Reason.{far_part, reaches_far, first_index}
use Rattle.reasoning.proofs.far.far_clause.Given as goal

abbrev pub invariant-loop-i : goal.invariant-loop-i
invariant-loop-i l = (φ : Formula) → Holds φ l.t l.c → well_formed φ ≡ true → l.ranks ≡ ranks_of φ.prefix → far_part φ l.x ≡ drop l.n φ.prefix → first_index (reaches_far (drop l.n φ.prefix) l.x) φ.clauses ≡ l.i + first_index (reaches_far (drop l.n φ.prefix) l.x) (drop l.i φ.clauses)
