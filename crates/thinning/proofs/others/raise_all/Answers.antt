-- The loop's invariant: the flags so far and the literals that are left make the whole.
-- Assumes nothing.
use native.Mathlib.Omega.{arith}
use Rattle.table.proofs.StayLaws.{small_at}
use Rattle.thinning.proofs.others.raise_all.Goals as goal

pub raise-requires : goal.raise-requires
raise-requires c = omega (arith, small_at _ c.loop-literal.literal-index c.requires (omega arith))
