-- The clause, its variable, and the universal.
-- Assumes nothing.
use mathlib.Core.Path.{sym}
use native.Mathlib.Omega.{arith}
use lib.Seq.{length-take-le}
use Rattle.table.proofs.HoldLaws.{bounds}
use Rattle.permits.proofs.PlaceLaws.{entries-of}
use Rattle.reasoning.proofs.FarLaws.{part-is, far-is-variable}
use Rattle.reasoning.proofs.far.why_far.Goals as goal

pub slice_bounds-first_universal-end : goal.slice_bounds-first_universal-end
slice_bounds-first_universal-end c = let b = bounds c.requires.held in sym (length-take-le _ _ (omega arith))

pub returns : goal.returns
returns c = λ φ h w e m. let k = c.place_of.ensures φ.prefix e (entries-of φ w h.fitting) in let d = part-is h _ _ k m c.first_universal-n.result c.first_universal-n.ensures in let j = c.far_clause-i.ensures φ h w e d in rw (j, far-is-variable h _ _ k m c.first_universal-n.result c.first_universal-n.ensures c.far_clause-i.result c.far_variable-y.result j (c.far_variable-y.ensures φ h), c.universal_after.ensures φ h w e m)
