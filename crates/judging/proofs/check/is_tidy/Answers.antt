-- Test by test, by the ranks of the prefix.
-- Assumes nothing.
use mathlib.Core.Path.{◌≡◌, sym, ◌∙◌}
use mathlib.Core.Bool.{◌&&◌}
use Rattle.meaning.specs.Lists.{all_of}
use Rattle.meaning.specs.WellFormed.{ascends}
use Rattle.judging.specs.Layout.{ranked}
use Rattle.meaning.proofs.Basics.{and_r}
use Rattle.judging.proofs.CheckLaws.{ranked-small-all, tidy-fails, tidy-tells}
use Rattle.judging.proofs.check.is_tidy.Goals.{then-rises, else-rises}
use Rattle.judging.proofs.check.is_tidy.Goals as goal

pub all_stay-requires : goal.all_stay-requires
all_stay-requires c =
    let v : c.if-rises.value ≡ ascends c.args.clause.now && all_of (ranked c.args.ranks.now) c.args.clause.now = elim c.if-rises.branch [
      | then-rises w ↦ w.value-is ∙ w.all_ranked.ensures ∙ rw (sym c.rises.ensures ∙ w.if-rises.true)
      | else-rises w ↦ w.value-is ∙ rw (sym c.rises.ensures ∙ w.if-rises.false) w.if-rises.false
    ] in
    ranked-small-all _ _ (and_r (ascends _) _ (sym v ∙ c.if-all_ranked.true))

pub returns-then-all_ranked : goal.returns-then-all_ranked
returns-then-all_ranked c =
    let v : c.if-rises.value ≡ ascends c.args.clause.now && all_of (ranked c.args.ranks.now) c.args.clause.now = elim c.if-rises.branch [
      | then-rises w ↦ w.value-is ∙ w.all_ranked.ensures ∙ rw (sym c.rises.ensures ∙ w.if-rises.true)
      | else-rises w ↦ w.value-is ∙ rw (sym c.rises.ensures ∙ w.if-rises.false) w.if-rises.false
    ] in
    λ p g e. tidy-tells p g _ _ e (sym v ∙ c.if-all_ranked.true) _ c.all_stay.ensures

pub returns-else-all_ranked : goal.returns-else-all_ranked
returns-else-all_ranked c =
    let v : c.if-rises.value ≡ ascends c.args.clause.now && all_of (ranked c.args.ranks.now) c.args.clause.now = elim c.if-rises.branch [
      | then-rises w ↦ w.value-is ∙ w.all_ranked.ensures ∙ rw (sym c.rises.ensures ∙ w.if-rises.true)
      | else-rises w ↦ w.value-is ∙ rw (sym c.rises.ensures ∙ w.if-rises.false) w.if-rises.false
    ] in
    λ p g e. c.if-all_ranked.false ∙ tidy-fails p g _ _ e (sym v ∙ c.if-all_ranked.false)
