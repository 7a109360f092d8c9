use native.Mathlib.Omega.{arith}
use Rattle.lines.proofs.Parts.{largest-more, largest-end}
use Rattle.lines.proofs.prefixes.largest_variable.Goals as goal

pub loop-e-preserved : goal.loop-e-preserved
loop-e-preserved c = largest-more _ c.loop-e.e-index _ c.loop-e.invariant (omega arith) _ c.max-m.ensures

pub returns : goal.returns
returns c = largest-end _ c.loop-e.e-index _ c.loop-e.invariant (omega arith)
