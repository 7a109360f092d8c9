-- The literals that are used are counted.
-- Assumes nothing.
use mathlib.Core.Path.{ap, ◌∙◌}
use native.Mathlib.Omega.{arith}
use Rattle.table.proofs.HoldLaws.{holds-bounds, used-is}
use Rattle.index.specs.Build.{tally_of, counts_in}
use Rattle.index.proofs.FillLaws.{starts-needs}
use Rattle.index.proofs.tallies.put_tally.Goals as goal

pub overflow_add-end : goal.overflow_add-end
overflow_add-end c = let b = holds-bounds c.requires.held_well.holds in omega arith

pub slice_bounds-count_literals-end : goal.slice_bounds-count_literals-end
slice_bounds-count_literals-end c = let b = holds-bounds c.requires.held_well.holds in omega arith

pub count_literals-requires : goal.count_literals-requires
count_literals-requires c =
    let n = starts-needs c.requires.held_well.holds c.requires.held_well.well in
    (c.requires.tally_len, n.0, n.1)

pub returns : goal.returns
unfolding tally_of
returns c = λ φ h w. c.count_literals.ensures ∙ ap counts_in (used-is h)
