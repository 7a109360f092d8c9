-- Left out, or there, or universal.
-- Assumes nothing.
use Rattle.std.proofs.Common.{refl, sym, ◌∙◌}
use Rattle.meaning.proofs.Basics.{clash, eqb-eq}
use Rattle.resolvents.proofs.ResolvFits.{stays_out, stays-there, stays-not}
use Rattle.resolvents.proofs.resolvents.stays_in.Goals as goal
use Rattle.resolvents.proofs.resolvents.stays_in.Goals.{then-literal-out, else-literal-out}

pub returns-then-contains : goal.returns-then-contains
returns-then-contains c = λ q g k.
    elim c.if-literal-out.branch [
      | then-literal-out w ↦ c.if-contains.true ∙ stays_out q _ _ _ w.if-literal-out.true
      | else-literal-out w ↦ c.if-contains.true ∙ stays-there q _ _ _ w.if-literal-out.false _ w.contains.ensures (sym w.value-is ∙ c.if-contains.true)
    ]

pub returns-else-contains : goal.returns-else-contains
returns-else-contains c = λ q g k.
    elim c.if-literal-out.branch [
      | then-literal-out w ↦ clash (eqb-eq w.if-literal-out.true) (sym w.value-is ∙ c.if-contains.false)
      | else-literal-out w ↦ stays-not q _ _ _ w.if-literal-out.false _ w.contains.ensures (sym w.value-is ∙ c.if-contains.false) _ refl _ (c.is_universal.ensures q k g)
    ]
