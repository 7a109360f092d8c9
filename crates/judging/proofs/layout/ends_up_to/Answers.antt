-- The loop's invariant: the ends that are left decide, from the last one on.
-- Assumes nothing.
use mathlib.Core.Path.{refl}
use native.Mathlib.Omega.{arith}
use Rattle.judging.proofs.LayoutLaws.{ends-turn, ends-fall, ends-end}
use Rattle.judging.proofs.layout.ends_up_to.Goals as goal

pub loop-e-init : goal.loop-e-init
loop-e-init c = refl

pub returns-then-e-k : goal.returns-then-e-k
returns-then-e-k c = ends-fall _ _ _ c.loop-e.e-index c.loop-e.invariant (omega arith) (omega arith)

pub loop-e-preserved : goal.loop-e-preserved
loop-e-preserved c = rw c.from-e.ensures (ends-turn _ _ _ c.loop-e.e-index c.loop-e.invariant (omega arith) (omega arith))

pub returns : goal.returns
returns c = ends-end _ _ _ c.loop-e.e-index c.loop-e.invariant (omega arith)
