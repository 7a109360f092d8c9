-- By the rank's last bit, where there is a rank.
-- Assumes nothing.
use mathlib.Core.Path.{ap, ◌∙◌}
use mathlib.Core.Bool.{not}
use Rattle.meaning.proofs.Basics.{eqb-eq}
use Rattle.permits.proofs.PlaceLaws.{rank-zero, rank-existential}
use Rattle.permits.proofs.ranks.is_existential.Goals as goal

pub returns-else-rank-ne0 : goal.returns-else-rank-ne0
returns-else-rank-ne0 c = λ p e g. ap not (eqb-eq c.if-rank-ne0.false) ∙ rank-zero p _ g _ (c.rank_of-rank.ensures p e g) c.if-rank-ne0.false

pub returns-then-rank-ne0 : goal.returns-then-rank-ne0
returns-then-rank-ne0 c = λ p e g. rank-existential p _ g _ (c.rank_of-rank.ensures p e g) c.if-rank-ne0.true
