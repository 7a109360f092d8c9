-- The loop's invariant: the clauses before are looked at.
-- Assumes nothing.
use native.Mathlib.Omega.{arith}
use Rattle.thinning.proofs.ReadLaws.{few}
use Rattle.thinning.proofs.GoingLaws.{going_start}
use Rattle.thinning.proofs.sides.flag_some.Goals as goal

pub loop-i-init : goal.loop-i-init
loop-i-init c = (omega arith, λ φ o h m. going_start _ _ _ o φ.clauses (few h) _ _ c.requires.none.0 c.requires.none.1)
