-- The loop's invariant: the clauses that are left decide.
-- Assumes nothing.
use mathlib.Core.Path.{◌≡◌}
use mathlib.Core.Bool.{true}
use lib.ListN.{drop}
use Rattle.meaning.specs.Lists.{all_of}
use Rattle.meaning.specs.Formula.{Formula}
use Rattle.meaning.specs.WellFormed.{tidy_clause}
use Rattle.table.specs.Table.{Holds}
use Rattle.table.specs.Ranks.{ranks_of, good_entries}
use Rattle.judging.proofs.check.all_tidy.Given as goal

abbrev pub invariant-loop-i : goal.invariant-loop-i
invariant-loop-i l = (φ : Formula) → Holds φ l.t l.c → good_entries φ.prefix ≡ true → l.ranks ≡ ranks_of φ.prefix → all_of (tidy_clause φ.prefix) φ.clauses ≡ all_of (tidy_clause φ.prefix) (drop l.i φ.clauses)
