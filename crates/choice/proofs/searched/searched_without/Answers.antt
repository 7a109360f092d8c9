-- By the two counts, and whether it is a universal.
-- Assumes nothing.
use Rattle.choice.proofs.HandLaws.{prefix-held, not-universal}
use Rattle.choice.proofs.SearchedLaws.{searched-absent, searched-pure}
use Rattle.search.proofs.SearchedLaws.{searched-none}
use Rattle.choice.proofs.searched.searched_without.Goals as goal

pub returns-then-gone-eq0 : goal.returns-then-gone-eq0
returns-then-gone-eq0 c = λ φ h k p q. searched-absent φ k.well _ _ q p _ _ (c.times_in.ensures φ k) (c.times_in-2.ensures φ k) c.if-gone-eq0.true

pub slice_bounds-contains-end : goal.slice_bounds-contains-end
slice_bounds-contains-end c = prefix-held c.requires.held

pub returns-then-contains : goal.returns-then-contains
returns-then-contains c = λ φ h k p q. searched-none _

pub returns : goal.returns
returns c = λ φ h k p q. searched-pure φ k.well _ _ q p _ _ (c.times_in.ensures φ k) (c.times_in-2.ensures φ k) (not-universal h _ _ c.contains.ensures c.if-contains.false) _ c.saturating_sub.ensures
