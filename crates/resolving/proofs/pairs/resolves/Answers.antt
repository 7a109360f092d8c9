-- The loop's invariant: the negative literal was found, or the literals that are left decide whether it is there.
-- Assumes nothing.
use mathlib.Core.Path.{◌∙◌}
use native.Mathlib.Omega.{arith}
use Rattle.resolving.proofs.IdleLaws.{idle-without, idle_met, found_turn, found-end}
use Rattle.resolving.proofs.pairs.resolves.Goals as goal

pub returns-then-meets-clause-idle : goal.returns-then-meets-clause-idle
returns-then-meets-clause-idle c = λ e. idle_met _ _ _ c.loop-literal.literal-index (omega arith) (c.meets.ensures c.if-meets.true)

pub loop-literal-preserved : goal.loop-literal-preserved
loop-literal-preserved c = (omega arith, found_turn _ _ c.loop-literal.literal-index c.loop-literal.found c.loop-literal.invariant.1 (omega arith))

pub returns-clause-idle : goal.returns-clause-idle
returns-clause-idle c =
    let f = found-end _ _ c.loop-literal.literal-index _ c.loop-literal.invariant.1 (omega arith) in
    λ e. idle-without _ _ _ (f ∙ e)
