-- A clause that is taken is fed and closed.
-- Assumes nothing.
use mathlib.Core.Path.{sym}
use borrow.Author.Rules.{rules}
use mathlib.Core.List.{[]}
use native.Mathlib.Omega.{arith}
use lib.Seq.{length-take-le}
use Rattle.table.proofs.HoldLaws.{bounds}
use Rattle.table.proofs.PendingLaws.{pends-empty, pended}
use Rattle.rebuilds.proofs.RawLaws.{ready-good, ready-ranks, one_left, one-taken}
use Rattle.rebuilds.proofs.turning.add_turned.Goals as goal

pub slice_bounds-feed-end : goal.slice_bounds-feed-end
slice_bounds-feed-end c = let b = bounds c.requires.held in omega arith

pub slice_bounds-feed-end-then-is_taken : goal.slice_bounds-feed-end-then-is_taken
slice_bounds-feed-end-then-is_taken c = let b = bounds c.requires.held in sym (length-take-le _ _ (omega arith))

pub feed-p-requires-clause-pended : goal.feed-p-requires-clause-pended
feed-p-requires-clause-pended c = pended (pends-empty _ (search rules))

pub close_filtered-requires-clause-pended : goal.close_filtered-requires-clause-pended
close_filtered-requires-clause-pended c =
    let d = pended (c.feed-p.ensures [] (pends-empty _ (search rules))) in
    d

pub returns-then-is_taken-clause-built : goal.returns-then-is_taken-clause-built
returns-then-is_taken-clause-built c =
    let fed = c.feed-p.ensures [] (pends-empty _ (search rules)) in
    λ ψ h. one-taken _ _ h _ _ _ (c.is_taken.ensures _ c.requires.ready) c.if-is_taken.true _ _ (c.close_filtered.ensures.became ψ _ h (ready-good h c.requires.ready) (ready-ranks h c.requires.ready) fed)

pub returns-clause-built : goal.returns-clause-built
returns-clause-built c = λ ψ h. one_left _ _ h _ _ _ (c.is_taken.ensures _ c.requires.ready) c.if-is_taken.false
