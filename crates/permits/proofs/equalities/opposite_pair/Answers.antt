-- By the two lengths, then literal by literal.
-- Assumes nothing.
use mathlib.Core.Path.{◌∙◌}
use Rattle.meaning.proofs.Basics.{eqb-ne}
use Rattle.permits.proofs.EqualLaws.{pair-x, pair-y, pair-first, pair-second}
use Rattle.permits.proofs.equalities.opposite_pair.Goals.{then-x-ne2-via-then-x-ne2, then-x-ne2-via-else-x-ne2+then-y-ne2}
use Rattle.permits.proofs.equalities.opposite_pair.Goals as goal

pub returns-then-x-ne2 : goal.returns-then-x-ne2
returns-then-x-ne2 c =
    elim c.then-x-ne2.branch [
      | then-x-ne2-via-then-x-ne2 w ↦ pair-x _ _ w.if-x-ne2.true
      | then-x-ne2-via-else-x-ne2+then-y-ne2 w ↦ pair-y _ _ w.if-x-ne2.false w.if-y-ne2.true
    ]

pub returns-else-y-flip : goal.returns-else-y-flip
returns-else-y-flip c = eqb-ne _ _ c.if-y-flip.false ∙ pair-first _ _ c.if-x-ne2.false c.if-y-ne2.false _ c.flip.ensures c.if-y-flip.false

pub returns-then-y-flip : goal.returns-then-y-flip
returns-then-y-flip c = pair-second _ _ c.if-x-ne2.false c.if-y-ne2.false _ _ c.flip.ensures c.if-y-flip.true c.flip-then-y-flip.ensures
