-- The prefix is a part of the table, and what stands right of a begins at its place.
-- Assumes nothing.
use mathlib.Core.Path.{sym, ◌∙◌}
use native.Mathlib.Omega.{arith}
use lib.Seq.{length-take-le}
use Rattle.rules.specs.Eliminate.{expand_permitted}
use Rattle.permits.proofs.AndLaws.{and_none}
use Rattle.table.proofs.HoldLaws.{bounds, prefix-is}
use Rattle.permits.proofs.PlaceLaws.{entries-of}
use Rattle.permits.proofs.SideLaws.{expand-is}
use Rattle.permits.proofs.expansion.expand_permitted.Goals as goal

pub slice_bounds-universals_first-end : goal.slice_bounds-universals_first-end
slice_bounds-universals_first-end c = let b = bounds c.requires.held in sym (length-take-le _ _ (omega arith))

pub returns-then-is_universal : goal.returns-then-is_universal
returns-then-is_universal c = λ φ h w e. let g = entries-of φ w h.fitting in expand-is φ w _ _ (c.place_of.ensures φ.prefix e g) _ (prefix-is h) _ (c.is_universal.ensures φ.prefix e g) c.if-is_universal.true _ c.universals_first.ensures

pub returns-else-is_universal : goal.returns-else-is_universal
unfolding expand_permitted
returns-else-is_universal c = λ φ h w e. c.if-is_universal.false ∙ and_none _ _ _ (c.is_universal.ensures φ.prefix e (entries-of φ w h.fitting)) c.if-is_universal.false
