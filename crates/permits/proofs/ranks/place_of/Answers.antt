-- Half the rank.
-- Assumes nothing.
use Rattle.permits.proofs.PlaceLaws.{rank-place}
use Rattle.permits.proofs.ranks.place_of.Goals as goal

pub returns : goal.returns
returns c = λ p e g. rank-place p _ _ (c.rank_of.ensures p e g)
