-- The library's first element that passes.
-- Assumes nothing.
use Rattle.std.proofs.Common.{◌∙◌, refl, ap, ◌/◌, ℕ, rules, tests}
use Rattle.std.specs.Prelude.{Option, unwrap_or}
use Rattle.std.proofs.lemmas.Iterator.{YieldsList-from_slice}
use Rattle.std.proofs.lemmas.Iterator.Adapters.{YieldsList-from_skip}
use Rattle.std.proofs.lemmas.Iterator.Search.{find_from_yields_List}
use Rattle.meaning.specs.Formula.{var, mentions}
use Rattle.reasons.specs.Reason.{leftmost_in}
use Rattle.reasoning.proofs.BehindLaws.{first-is}
use Rattle.reasoning.proofs.far.leftmost_behind.Goals as goal

pub returns : goal.returns
unfolding leftmost_in var
returns c =
    let e = find_from_yields_List (λ q. mentions c.args.clause.now (var q)) _ _ c.find-first.result c.find-first.ensures.ran
    (YieldsList-from_skip c.args.n (YieldsList-from_slice c.args.prefix.now cc) cc) (λ x b q k. search (rules, tests)) in
    ap (λ (n : ℕ). n / 2)
    (c.unwrap_or.ensures ∙ ap (λ (o : Option ℕ). unwrap_or o 0) (c.copied.ensures ∙ e) ∙ first-is (λ q. mentions c.args.clause.now (var q)) (λ q. mentions c.args.clause.now (var q)) (λ q. refl) _)
