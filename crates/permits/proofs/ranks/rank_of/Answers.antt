-- A number over 1,023 is no variable of the prefix.
-- Assumes nothing.
use Rattle.permits.proofs.PlaceLaws.{rank-large, rank-read}
use Rattle.permits.proofs.ranks.rank_of.Goals as goal

pub returns-then-v-gt-VARIABLES : goal.returns-then-v-gt-VARIABLES
returns-then-v-gt-VARIABLES c = λ p e g. rank-large p _ g c.if-v-gt-VARIABLES.true

pub returns : goal.returns
returns c = λ p e g. rank-read p c.args.v g c.if-v-gt-VARIABLES.false _ e
