use native.Mathlib.Omega.{arith}
use Rattle.lines.proofs.Parts.{clause-counts, clause-counted}
use Rattle.lines.proofs.clauses.clause_size.Goals as goal

pub loop-l-preserved : goal.loop-l-preserved
loop-l-preserved c = (clause-counts _ c.loop-l.l-index _ _ c.loop-l.invariant.0 (omega arith) _ c.literal_size.ensures.is, omega arith)

pub returns : goal.returns
returns c = record { is = clause-counted _ c.loop-l.l-index _ _ c.loop-l.invariant.0 (omega arith); few = omega arith }
