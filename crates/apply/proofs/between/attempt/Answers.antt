-- The call is read, the prefix ranked; then it is done or refused.
-- Assumes nothing.
use mathlib.Core.Path.{◌≡◌, refl, sym, ◌∙◌}
use Rattle.std.proofs.Common.{Err, rules, tests}
use Rattle.apply.proofs.StartLaws.{kept-held, given-of, prefix-part, prefix-short}
use Rattle.apply.proofs.StepLaws.{read-some, read-none, tried-built, tried-bad, tried-not}
use Rattle.apply.proofs.between.attempt.Goals as goal

pub returns-in_err-call : goal.returns-in_err-call
returns-in_err-call c = λ φ h w. let b = read-none _ _ _ c.read_entry.ensures (sym c.ok_or.ensures.value ∙ c.in_err-call.was) in
    let f : c.from_residual.result ≡ Err c.in_err-call.field-0.0 = search (rules, tests) in
    rw (f, b.1) (tried-bad φ _ _ refl _ _ b.0)

pub slice_bounds-rank_prefix-end : goal.slice_bounds-rank_prefix-end
slice_bounds-rank_prefix-end c = prefix-part (kept-held c.requires.0)

pub rank_prefix-requires : goal.rank_prefix-requires
rank_prefix-requires c = prefix-short (kept-held c.requires.0)

pub may_go-requires : goal.may_go-requires
may_go-requires c = (kept-held c.requires.0, λ φ g t. rw (read-some _ _ _ c.read_entry.ensures (sym c.ok_or.ensures.value ∙ c.in_ok-call.was)) (c.requires.2 φ g.holds g.well t))

pub perform-requires : goal.perform-requires
perform-requires c = record { formula = c.requires.0.formula; given = given-of c.requires.0.holds c.requires.0.well c.rank_prefix.ensures; empty = c.requires.1; room = refl }

pub returns-then-not-may_go : goal.returns-then-not-may_go
returns-then-not-may_go c =
    λ φ h w. let g = given-of h w c.rank_prefix.ensures in
    let i = read-some _ _ _ c.read_entry.ensures (sym c.ok_or.ensures.value ∙ c.in_ok-call.was) in
    tried-not φ _ _ i _ _ _ refl (sym (c.may_go.ensures φ g) ∙ c.if-not-may_go.true)

pub returns : goal.returns
returns c =
    λ φ h w. let g = given-of h w c.rank_prefix.ensures in
    let i = read-some _ _ _ c.read_entry.ensures (sym c.ok_or.ensures.value ∙ c.in_ok-call.was) in
    let y = sym (c.may_go.ensures φ g) ∙ c.if-not-may_go.false in
    rw c.ok_or-2.ensures.value (tried-built φ _ _ i _ _ y _ (c.perform.ensures φ g y))
