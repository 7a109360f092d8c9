-- By the quantifier, the opposite, and the other literals.
-- Assumes nothing.
use mathlib.Core.Path.{sym, ◌∙◌}
use Rattle.meaning.proofs.Basics.{clash}
use Rattle.permits.proofs.StrengthenLaws.{strengthens-none, strengthens-not, strengthens-is}
use Rattle.permits.proofs.strengthening.strengthens_by.Goals.{then-is_existential, else-is_existential}
use Rattle.permits.proofs.strengthening.strengthens_by.Goals as goal

pub returns-then-contains : goal.returns-then-contains
returns-then-contains c = λ p e g.
    elim c.if-is_existential.branch [
      | then-is_existential w ↦ strengthens-is p _ _ _ _ (c.is_existential.ensures p e g) w.if-is_existential.true _ w.flip.ensures _ w.contains.ensures (sym w.value-is ∙ c.if-contains.true) _ c.others_in.ensures
      | else-is_existential w ↦ clash (sym w.value-is ∙ c.if-contains.true) w.if-is_existential.false
    ]

pub returns-else-contains : goal.returns-else-contains
returns-else-contains c = λ p e g. c.if-contains.false ∙
    elim c.if-is_existential.branch [
      | then-is_existential w ↦ strengthens-not p _ _ _ _ (c.is_existential.ensures p e g) w.if-is_existential.true _ w.flip.ensures _ w.contains.ensures (sym w.value-is ∙ c.if-contains.false)
      | else-is_existential w ↦ strengthens-none p _ _ _ _ (c.is_existential.ensures p e g) w.if-is_existential.false
    ]
