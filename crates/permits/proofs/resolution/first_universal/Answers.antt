-- The loop's invariant: the first universal is among what is left.
-- Assumes nothing.
use mathlib.Core.Path.{refl, ◌∙◌}
use native.Mathlib.Omega.{arith}
use Rattle.permits.proofs.ScanLaws.{from-stops, from-turn, from_end}
use Rattle.permits.proofs.resolution.first_universal.Goals as goal

pub loop-i-init : goal.loop-i-init
loop-i-init c = refl

pub returns-then-prefix-i-eq1 : goal.returns-then-prefix-i-eq1
returns-then-prefix-i-eq1 c = c.loop-i.invariant ∙ from-stops c.args.prefix.now c.loop-i.i (omega arith) c.if-prefix-i-eq1.true

pub loop-i-preserved : goal.loop-i-preserved
loop-i-preserved c = c.loop-i.invariant ∙ from-turn c.args.prefix.now c.loop-i.i (omega arith) c.if-prefix-i-eq1.false

pub returns : goal.returns
returns c = c.loop-i.invariant ∙ from_end c.args.prefix.now c.loop-i.i (omega arith)
