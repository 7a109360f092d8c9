-- The loop's invariant: the literals that are left make the rest of the bits.
-- Assumes nothing.
use mathlib.Core.Path.{refl}
use native.Mathlib.Omega.{arith}
use Rattle.resolving.specs.Pairs.{opposite_bits}
use Rattle.resolving.proofs.BitLaws.{bits-turn}
use Rattle.resolving.proofs.pairs.opposite_bits.Goals as goal

pub loop-literal-init : goal.loop-literal-init
unfolding opposite_bits
loop-literal-init c = (omega arith, refl)

pub loop-literal-preserved : goal.loop-literal-preserved
loop-literal-preserved c = (omega arith, bits-turn c.args.clause.now c.loop-literal.literal-index c.loop-literal.bits c.loop-literal.invariant.1 (omega arith) _ c.flip.ensures)
