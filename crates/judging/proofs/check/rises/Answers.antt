-- The loop's invariant: the literals from the one before on decide.
-- Assumes nothing.
use mathlib.Core.Path.{refl}
use native.Mathlib.Omega.{arith}
use Rattle.judging.proofs.CheckLaws.{rises-falls, rises-turn, rises-end}
use Rattle.judging.proofs.check.rises.Goals as goal

pub loop-i-init : goal.loop-i-init
loop-i-init c = (omega arith, refl)

pub returns-then-clause-i : goal.returns-then-clause-i
returns-then-clause-i c = rises-falls _ c.loop-i.i c.loop-i.invariant.0 c.loop-i.invariant.1 (omega arith) c.if-clause-i.true

pub loop-i-preserved : goal.loop-i-preserved
loop-i-preserved c = (omega arith, rises-turn _ c.loop-i.i c.loop-i.invariant.0 c.loop-i.invariant.1 (omega arith) c.if-clause-i.false)

pub returns : goal.returns
returns c = rises-end _ c.loop-i.i c.loop-i.invariant.0 c.loop-i.invariant.1 (omega arith)
