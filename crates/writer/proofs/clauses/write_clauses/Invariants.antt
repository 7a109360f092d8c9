-- The lines, one after the other.
-- Assumes nothing.
use lib.ListN.{drop}
use Rattle.meaning.specs.Formula.{Formula}
use Rattle.qdimacs.specs.Write.{clause_lines}
use Rattle.table.specs.Table.{Holds}
use Rattle.lines.proofs.Writing.{Going}
use Rattle.writer.proofs.clauses.write_clauses.Given as goal

-- the lines of the clauses that are left, written at `at`, make the lines of all, for whichever formula is held
abbrev pub invariant-loop-i : goal.invariant-loop-i
invariant-loop-i l = (φ : Formula) → Holds φ l.t l.c → Going (clause_lines φ.clauses) (clause_lines (drop l.i φ.clauses)) l.start l.at l.initial.out l.out
