-- By the quantifier.
-- Assumes nothing.
use mathlib.Core.Path.{◌∙◌}
use Rattle.table.proofs.StayLaws.{later-none, later-most}
use Rattle.table.proofs.reduce.later.Goals as goal

pub returns-then-rank-eq1 : goal.returns-then-rank-eq1
returns-then-rank-eq1 c = later-none _ _ _ _ c.rank_of-rank.ensures c.if-rank-eq1.true

pub returns : goal.returns
returns c = c.max.ensures ∙ later-most _ _ _ _ c.rank_of-rank.ensures c.if-rank-eq1.false
