-- A clause that is taken lasts, or is fed and closed.
-- Assumes nothing.
use mathlib.Core.Path.{sym, ◌∙◌}
use Rattle.filter.proofs.ApartLaws.{apart-same, apart_other, apart_more}
use Rattle.rebuilds.proofs.RawLaws.{one_left, one-changed, one-stays}
use Rattle.rebuilds.proofs.rebuilding.add_one.Goals as goal

pub returns-then-is_left : goal.returns-then-is_left
returns-then-is_left c =
    λ ψ others h f l. let b = c.add_apart.ensures ψ others h f l.apart in
    (one-stays _ _ h _ _ _ (c.is_taken.ensures _ c.requires.ready) c.if-is_taken.true (l.stays (sym c.is_left.ensures ∙ c.if-is_left.true)) _ _ b, λ e q. apart_more h f _ _ _ _ b e q)

pub returns-then-is_taken : goal.returns-then-is_taken
returns-then-is_taken c = λ ψ others h f l. (one-changed _ _ h _ _ _ (c.is_taken.ensures _ c.requires.ready) c.if-is_taken.true _ _ (c.add_changed.ensures.became ψ h), λ e q. apart_other (c.add_changed.ensures.covers_after others e f q) _)

pub returns : goal.returns
returns c = λ ψ others h f l. (one_left _ _ h _ _ _ (c.is_taken.ensures _ c.requires.ready) c.if-is_taken.false, λ e q. apart_other (apart-same f e q) _)
