-- The first universal is looked for from the variable's place on.
-- Assumes nothing.
use mathlib.Core.Path.{sym}
use native.Mathlib.Omega.{arith}
use lib.ListN.{take}
use lib.Seq.{length-take-le}
use Rattle.table.proofs.HoldLaws.{holds-bounds, prefix-is}
use Rattle.permits.proofs.PlaceLaws.{entries-of}
use Rattle.weigh.proofs.ResolvStart.{first-at}
use Rattle.weigh.proofs.resolving.may_resolve.Goals as goal

pub slice_bounds-first_universal-end : goal.slice_bounds-first_universal-end
slice_bounds-first_universal-end c = let b = holds-bounds c.args.at.now.studied.holds in sym (length-take-le _ _ (omega arith))

pub may_resolve_within-requires : goal.may_resolve_within-requires
may_resolve_within-requires c = record {
  first_universal = λ φ g. first-at φ c.args.a c.place_of.result c.first_universal-n.result (take c.args.at.now.counts.variables c.args.at.now.table.now) (prefix-is g.holds)
      (c.place_of.ensures φ.prefix g.ranked (entries-of φ g.well g.holds.fitting)) c.first_universal-n.ensures;
}

pub returns : goal.returns
returns c = c.may_resolve_within.ensures
