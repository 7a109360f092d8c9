-- The loop's invariant: the clauses so far differ, and their stamps are in the filter.
-- Assumes nothing.
use Rattle.meaning.specs.Formula.{Formula}
use Rattle.table.specs.Table.{Holds}
use Rattle.judging.proofs.CheckLaws.{Apart}
use Rattle.judging.proofs.check.all_differ.Given as goal

abbrev pub invariant-loop-i : goal.invariant-loop-i
invariant-loop-i l = (φ : Formula) → Holds φ l.t l.c → Apart φ.clauses l.i l.filter
