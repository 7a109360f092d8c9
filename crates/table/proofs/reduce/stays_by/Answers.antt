-- By the quantifier.
-- Assumes nothing.
use mathlib.Core.Path.{◌∙◌}
use native.Mathlib.Omega.{arith}
use Rattle.meaning.proofs.Basics.{eqb-eq}
use Rattle.table.proofs.StayLaws.{stays-left, stays-exists}
use Rattle.table.proofs.reduce.stays_by.Goals as goal

pub returns-then-rank-eq0 : goal.returns-then-rank-eq0
returns-then-rank-eq0 c = eqb-eq c.if-rank-eq0.true ∙ stays-exists _ _ _ _ c.rank_of-rank.ensures (λ h. omega (arith, h, c.if-rank-eq0.true))

pub returns-else-rank-eq0 : goal.returns-else-rank-eq0
returns-else-rank-eq0 c = stays-left _ _ _ _ c.rank_of-rank.ensures (omega (arith, c.if-rank-eq0.false))
