-- The prefix is ranked, the index is built, and kind 3 comes first.
-- Assumes nothing.
use Rattle.index.proofs.ReadLaws.{study-in}
use Rattle.search.proofs.StudyLaws.{studied-in}
use Rattle.choice.proofs.HandLaws.{ranked-is, prefix-part, prefix-short, unsettled-well}
use Rattle.choice.proofs.kinds.choose_indexed.Goals as goal

pub slice_bounds-rank_prefix-end : goal.slice_bounds-rank_prefix-end
slice_bounds-rank_prefix-end c = prefix-part (unsettled-well c.requires.0)

pub rank_prefix-requires : goal.rank_prefix-requires
rank_prefix-requires c = prefix-short (unsettled-well c.requires.0)

pub build_index-requires-clause-held_well : goal.build_index-requires-clause-held_well
build_index-requires-clause-held_well c = unsettled-well c.requires.0

pub build_index-requires-clause-index_len : goal.build_index-requires-clause-index_len
build_index-requires-clause-index_len c = (c.requires.1, c.requires.3)

pub invariant_of-at : goal.invariant_of-at
invariant_of-at c =
    let u = c.requires.0 in
    record {
      studied = studied-in (study-in (record { holds = u.holds; well = u.well; ranked = ranked-is u.holds u.well c.rank_prefix.ensures; indexed = c.build_index.ensures u.formula u.holds u.well }));
    }

pub choose_subsume-requires : goal.choose_subsume-requires
choose_subsume-requires c = (
  record {
    formula = c.requires.0.formula;
    studied = record { holds = c.requires.0.holds; well = c.requires.0.well; ranked = ranked-is c.requires.0.holds c.requires.0.well c.rank_prefix.ensures; indexed = c.build_index.ensures c.requires.0.formula c.requires.0.holds c.requires.0.well };
    no-empty = c.requires.0.no-empty;
    searched = c.requires.0.searched;
  },
  c.requires.2,
)

pub returns : goal.returns
returns c = λ φ h w n q. c.choose_subsume.ensures φ (record { holds = h; well = w; ranked = ranked-is h w c.rank_prefix.ensures; indexed = c.build_index.ensures φ h w }) n q
