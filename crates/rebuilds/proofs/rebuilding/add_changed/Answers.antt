-- The clause is fed and closed.
-- Assumes nothing.
use mathlib.Core.Path.{sym}
use borrow.Author.Rules.{rules}
use mathlib.Core.List.{[]}
use native.Mathlib.Omega.{arith}
use lib.Seq.{length-take-le}
use Rattle.table.proofs.HoldLaws.{bounds}
use Rattle.table.proofs.PendingLaws.{pends-empty, pended}
use Rattle.rebuilds.proofs.RawLaws.{ready-good, ready-ranks, fed-here}
use Rattle.rebuilds.proofs.rebuilding.add_changed.Goals as goal

pub slice_bounds-feed-end : goal.slice_bounds-feed-end
slice_bounds-feed-end c = let b = bounds c.requires.held in omega arith

pub slice_bounds-feed-end-2 : goal.slice_bounds-feed-end-2
slice_bounds-feed-end-2 c = let b = bounds c.requires.held in sym (length-take-le _ _ (omega arith))

pub feed-p-requires-clause-pended : goal.feed-p-requires-clause-pended
feed-p-requires-clause-pended c = pended (pends-empty _ (search rules))

pub close_stamped-requires-clause-pended : goal.close_stamped-requires-clause-pended
close_stamped-requires-clause-pended c =
    let d = pended (c.feed-p.ensures [] (pends-empty _ (search rules))) in
    d

pub returns-clause-became : goal.returns-clause-became
returns-clause-became c =
    let fed = c.feed-p.ensures [] (pends-empty _ (search rules)) in
    λ ψ h. fed-here _ h _ _ _ _ _ (c.close_stamped.ensures.became ψ _ h (ready-good h c.requires.ready) (ready-ranks h c.requires.ready) fed)
