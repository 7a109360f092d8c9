-- The sizes of the lines, added up.
-- Assumes nothing.
use Rattle.meaning.specs.Formula.{Formula}
use Rattle.table.specs.Table.{Holds}
use Rattle.writer.proofs.ClauseLaws.{Counted}
use Rattle.writer.proofs.clauses.clauses_size.Given as goal

-- the bytes of the clauses that are passed, for whichever formula is held
abbrev pub invariant-loop-i : goal.invariant-loop-i
invariant-loop-i l = (φ : Formula) → Holds φ l.t l.c → Counted φ.clauses l.i l.n
