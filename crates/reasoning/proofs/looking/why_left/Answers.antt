-- By the quantifier of the variable.
-- Assumes nothing.
use mathlib.Core.Path.{sym, ◌∙◌}
use Rattle.index.proofs.ReadLaws.{study-in}
use Rattle.search.proofs.StudyLaws.{studied-in}
use Rattle.choice.proofs.HandLaws.{ranked-is, prefix-part, prefix-short}
use Rattle.permits.proofs.PlaceLaws.{entries-of}
use Rattle.reasoning.proofs.StepLaws.{quiet-well, left-ranks, left-universal, left-existential}
use Rattle.reasoning.proofs.looking.why_left.Goals as goal

pub slice_bounds-rank_prefix-end : goal.slice_bounds-rank_prefix-end
slice_bounds-rank_prefix-end c = prefix-part (quiet-well c.requires.0)

pub rank_prefix-requires : goal.rank_prefix-requires
rank_prefix-requires c = prefix-short (quiet-well c.requires.0)

pub why_universal-requires : goal.why_universal-requires
why_universal-requires c = (record { formula = c.requires.0.formula; ranks-of = left-ranks c.requires.0.holds c.requires.0.well c.requires.0.quiet (ranked-is c.requires.0.holds c.requires.0.well c.rank_prefix.ensures) }, c.requires.2)

pub returns-then-is_universal : goal.returns-then-is_universal
returns-then-is_universal c = λ φ h w q m. let e = ranked-is h w c.rank_prefix.ensures in let u = c.is_universal.ensures φ.prefix e (entries-of φ w h.fitting) in left-universal _ φ _ _ u c.if-is_universal.true _ (c.why_universal.ensures φ (left-ranks h w q e) q (sym u ∙ c.if-is_universal.true))

pub put_tally-requires-clause-held_well : goal.put_tally-requires-clause-held_well
put_tally-requires-clause-held_well c = quiet-well c.requires.0

pub put_tally-requires-clause-tally_len : goal.put_tally-requires-clause-tally_len
put_tally-requires-clause-tally_len c = c.requires.1

pub build_index-requires-clause-held_well : goal.build_index-requires-clause-held_well
build_index-requires-clause-held_well c = quiet-well c.requires.0

pub build_index-requires-clause-index_len : goal.build_index-requires-clause-index_len
build_index-requires-clause-index_len c = (c.put_tally.auto.tally ∙ c.requires.1, c.put_tally.ensures)

pub invariant_of-at : goal.invariant_of-at
invariant_of-at c = record { studied = studied-in (study-in (record { holds = c.requires.0.holds; well = c.requires.0.well; ranked = ranked-is c.requires.0.holds c.requires.0.well c.rank_prefix.ensures; indexed = c.build_index.ensures c.requires.0.formula c.requires.0.holds c.requires.0.well })) }

pub returns : goal.returns
returns c = λ φ h w q m. let e = ranked-is h w c.rank_prefix.ensures in left-existential _ φ _ _ (c.is_universal.ensures φ.prefix e (entries-of φ w h.fitting)) c.if-is_universal.false _ (c.why_existential.ensures φ _ (record { holds = h; well = w; ranked = e; indexed = c.build_index.ensures φ h w }) m)
