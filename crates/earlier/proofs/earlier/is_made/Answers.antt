-- A clause without its literal of the variable gives nothing.
-- Assumes nothing.
use mathlib.Core.Path.{◌∙◌, sym}
use Rattle.meaning.proofs.Basics.{clash}
use Rattle.permits.proofs.PlaceLaws.{entries-of}
use Rattle.earlier.proofs.EarlierLaws.{made-own, made_other, made-both}
use Rattle.earlier.proofs.earlier.is_made.Goals as goal
use Rattle.earlier.proofs.earlier.is_made.Goals.{then-contains, else-contains}

pub returns-then-contains-2 : goal.returns-then-contains-2
returns-then-contains-2 c = λ φ k.
    elim c.if-contains.branch [
      | then-contains w ↦ made-both φ _ _ _ _ _ c.contains.ensures w.if-contains.true _ w.contains-then-contains.ensures (sym w.value-is ∙ c.if-contains-2.true) _
          (c.gives.ensures φ.prefix (entries-of φ k.well k.holds.fitting) k.ranked)
      | else-contains w ↦ clash (sym w.value-is ∙ c.if-contains-2.true) w.if-contains.false
    ]

pub returns-else-contains-2 : goal.returns-else-contains-2
returns-else-contains-2 c = λ φ k.
    elim c.if-contains.branch [
      | then-contains w ↦ c.if-contains-2.false ∙ made_other φ _ _ _ _ _ c.contains.ensures w.if-contains.true _ w.contains-then-contains.ensures (sym w.value-is ∙ c.if-contains-2.false)
      | else-contains w ↦ c.if-contains-2.false ∙ made-own φ _ _ _ _ _ c.contains.ensures w.if-contains.false
    ]
