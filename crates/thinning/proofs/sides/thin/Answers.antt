-- All clauses with the literal are flagged, or those that are left.
-- Assumes nothing.
use mathlib.Core.Path.{refl}
use native.Mathlib.Omega.{arith}
use Rattle.table.proofs.HoldLaws.{count-clauses}
use Rattle.thinning.proofs.ReadLaws.{few, read_small}
use Rattle.thinning.proofs.OtherLaws.{met_all}
use Rattle.thinning.proofs.GoingLaws.{thinned}
use Rattle.thinning.proofs.sides.thin.Goals as goal

pub returns : goal.returns
returns c =
    λ φ h. thinned _ _ _ _ φ.clauses (few h) _ _
    (c.flag_some.ensures φ c.args.other h (met_all _ _ _ φ.clauses _ _ refl (read_small (record { held = c.requires.held; well = c.requires.well }) h) (c.flag_met.ensures φ h)))
    (omega (arith, count-clauses h))
