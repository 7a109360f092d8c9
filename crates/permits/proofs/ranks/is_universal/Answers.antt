-- By the rank's last bit.
-- Assumes nothing.
use Rattle.permits.proofs.PlaceLaws.{rank-universal}
use Rattle.permits.proofs.ranks.is_universal.Goals as goal

pub returns : goal.returns
returns c = λ p e g. rank-universal p _ g _ (c.rank_of.ensures p e g)
