-- A variable is there exactly if it has a rank.
-- Assumes nothing.
use Rattle.permits.proofs.PlaceLaws.{rank-mentions}
use Rattle.permits.proofs.ranks.in_prefix.Goals as goal

pub returns : goal.returns
returns c = λ p e g. rank-mentions p _ g _ (c.rank_of.ensures p e g)
