-- By the number, and by the rank.
-- Assumes nothing.
use Rattle.judging.proofs.CheckLaws.{ranked-large, ranked-small}
use Rattle.judging.proofs.check.has_rank.Goals as goal

pub returns-then-literal-le2047 : goal.returns-then-literal-le2047
returns-then-literal-le2047 c = ranked-small _ _ _ c.if-literal-le2047.true c.rank_of.ensures

pub returns-else-literal-le2047 : goal.returns-else-literal-le2047
returns-else-literal-le2047 c = ranked-large _ _ c.if-literal-le2047.false
