-- The invariant: the walk stands at k. Each link leads to the left.
-- Assumes nothing.
use Rattle.meaning.specs.Formula.{Formula}
use Rattle.table.specs.Table.{Holds}
use Rattle.marks.specs.Marks.{Marks}
use Rattle.marks.proofs.WalkLaws.{Walk}
use Rattle.marks.proofs.is_marked.Given as goal

abbrev pub invariant-loop-k : goal.invariant-loop-k
invariant-loop-k l = (φ : Formula) → Holds φ l.t l.c → Marks φ.clauses l.marks → Walk φ.clauses l.clause l.k

abbrev pub decreases-loop-k : goal.decreases-loop-k
decreases-loop-k l = l.k
