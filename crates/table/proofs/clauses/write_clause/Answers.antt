-- The loop's invariant: the front is copied, the rest is as it was.
-- Assumes nothing.
use native.Mathlib.Omega.{arith}
use lib.ListN.{length-set}
use Rattle.table.proofs.ListLaws.{front-turn, front-end}
use Rattle.table.proofs.clauses.write_clause.Goals as goal

pub loop-i-preserved : goal.loop-i-preserved
loop-i-preserved c = (omega arith, c.loop-i.invariant.1, simp length-set c.loop-i.invariant.2, front-turn _ _ _ _ c.loop-i.invariant.3 (omega arith) (omega arith))

pub returns : goal.returns
returns c = front-end _ _ _ c.loop-i.i c.loop-i.invariant.3 (omega arith) (omega arith)
