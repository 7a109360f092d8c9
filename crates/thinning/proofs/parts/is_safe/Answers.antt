-- By whether the literal stays, and by the flag of its opposite.
-- Assumes nothing.
use native.Mathlib.Omega.{arith}
use Rattle.thinning.proofs.ReadLaws.{opposite-below}
use Rattle.thinning.proofs.parts.is_safe.Goals as goal

pub is_raised-requires : goal.is_raised-requires
is_raised-requires c = omega (arith, opposite-below _ c.requires _ c.flip.ensures)
