-- The prefix is a part of the table, and what stands right of a begins at its place.
-- Assumes nothing.
use mathlib.Core.Path.{sym, ◌∙◌}
use borrow.Author.Tests.{lt-leb}
use Rattle.meaning.proofs.Basics.{clash}
use native.Mathlib.Omega.{arith}
use lib.Seq.{length-take-le}
use Rattle.rules.specs.Eliminate.{resolve_permitted}
use Rattle.permits.proofs.AndLaws.{and_none}
use Rattle.table.proofs.HoldLaws.{bounds, prefix-is}
use Rattle.permits.proofs.PlaceLaws.{entries-of}
use Rattle.permits.proofs.SideLaws.{resolve-is, resolve-large}
use Rattle.permits.proofs.resolution.resolve_permitted.Goals.{then-a-le-VARIABLES, else-a-le-VARIABLES}
use Rattle.permits.proofs.resolution.resolve_permitted.Goals as goal

pub slice_bounds-first_universal-end : goal.slice_bounds-first_universal-end
slice_bounds-first_universal-end c = let b = bounds c.requires.held in sym (length-take-le _ _ (omega arith))

pub returns-then-is_existential : goal.returns-then-is_existential
returns-then-is_existential c = λ φ h k e.
    elim c.if-a-le-VARIABLES.branch [
      | then-a-le-VARIABLES w ↦ let g = entries-of φ k h.fitting in resolve-is φ k _ _ (c.place_of.ensures φ.prefix e g) _ (prefix-is h) _ (w.is_existential.ensures φ.prefix e g) (sym w.value-is ∙ c.if-is_existential.true) _ c.first_universal.ensures _ (c.sides_within.ensures φ h k e)
      | else-a-le-VARIABLES w ↦ clash (sym w.value-is ∙ c.if-is_existential.true) (lt-leb _ _ w.if-a-le-VARIABLES.false)
    ]

pub returns-else-is_existential : goal.returns-else-is_existential
unfolding resolve_permitted
returns-else-is_existential c = λ φ h k e. c.if-is_existential.false ∙
    elim c.if-a-le-VARIABLES.branch [
      | then-a-le-VARIABLES w ↦ and_none _ _ _ (w.is_existential.ensures φ.prefix e (entries-of φ k h.fitting)) (sym w.value-is ∙ c.if-is_existential.false)
      | else-a-le-VARIABLES w ↦ resolve-large φ _ (entries-of φ k h.fitting) w.if-a-le-VARIABLES.false
    ]
