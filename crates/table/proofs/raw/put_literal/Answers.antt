-- By what the scratch holds: both phases, the variable's plain literal, its negated one, or neither.
-- Assumes nothing.
use mathlib.Core.Path.{sym, ◌∙◌}
use Rattle.table.proofs.PendingLaws.{put_both}
use Rattle.table.proofs.RisingLaws.{pends-rising, count_next}
use Rattle.table.proofs.PutLaws.{place-of, put-plain, put-plain-other, put-negated, put-negated-other, put-out, put-within, put-more}
use Rattle.table.proofs.raw.put_literal.Goals as goal

pub returns-in_err-n : goal.returns-in_err-n
returns-in_err-n c = λ raw h. rw c.from_residual.ensures (put_both h _ c.requires.le_literal.0 c.requires.le_literal.1 c.in_err-n.was)

pub place_in-at-requires : goal.place_in-at-requires
place_in-at-requires c = pends-rising c.requires.pended.pends _ c.in_ok-n.was

pub stands_at-requires-clause-s_value : goal.stands_at-requires-clause-s_value
stands_at-requires-clause-s_value c = pends-rising c.requires.pended.pends _ c.in_ok-n.was

pub returns-then-literal-plain : goal.returns-then-literal-plain
returns-then-literal-plain c = λ raw h. put-plain h _ c.in_ok-n.was _ c.requires.le_literal.0 c.requires.le_literal.1 (sym c.stands_at.ensures ∙ c.if-stands_at.true) c.if-literal-plain.true

pub returns-else-literal-plain : goal.returns-else-literal-plain
returns-else-literal-plain c = λ raw h. put-plain-other h _ c.in_ok-n.was _ c.requires.le_literal.0 c.requires.le_literal.1 (sym c.stands_at.ensures ∙ c.if-stands_at.true) c.if-literal-plain.false

pub stands_at-requires-2-clause-s_value : goal.stands_at-requires-2-clause-s_value
stands_at-requires-2-clause-s_value c = pends-rising c.requires.pended.pends _ c.in_ok-n.was

pub stands_at-requires-2-clause-p_value : goal.stands_at-requires-2-clause-p_value
stands_at-requires-2-clause-p_value c = c.place_in-at.ensures ∙ sym (count_next _ _ (sym c.stands_at.ensures ∙ c.if-stands_at.false))

pub returns-then-literal-negated : goal.returns-then-literal-negated
returns-then-literal-negated c = λ raw h. put-negated h _ c.in_ok-n.was _ c.requires.le_literal.0 c.requires.le_literal.1 (sym c.stands_at-2.ensures ∙ c.if-stands_at-2.true) c.if-literal-negated.true

pub returns-else-literal-negated : goal.returns-else-literal-negated
returns-else-literal-negated c = λ raw h. put-negated-other h _ c.in_ok-n.was _ c.requires.le_literal.0 c.requires.le_literal.1 (sym c.stands_at-2.ensures ∙ c.if-stands_at-2.true) c.if-literal-negated.false

pub insert_at-requires : goal.insert_at-requires
insert_at-requires c =
    let out = sym c.stands_at.ensures ∙ c.if-stands_at.false in
    let free = sym c.stands_at-2.ensures ∙ c.if-stands_at-2.false in
    (put-within c.requires.pended.pends _ c.in_ok-n.was _ c.requires.le_literal.0 c.requires.le_literal.1 out free, put-out c.requires.pended.pends _ c.in_ok-n.was _ c.requires.le_literal.0 c.requires.le_literal.1 out free, place-of _ _ _ c.place_in-at.ensures out)

pub returns : goal.returns
returns c =
    let out = sym c.stands_at.ensures ∙ c.if-stands_at.false in
    let free = sym c.stands_at-2.ensures ∙ c.if-stands_at-2.false in
    λ raw h. put-more h _ c.in_ok-n.was _ c.requires.le_literal.0 c.requires.le_literal.1 out free _ c.insert_at.auto.s c.insert_at.ensures
