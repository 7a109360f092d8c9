-- One read.
-- Assumes nothing.
use Rattle.table.proofs.StayLaws.{rank-read}
use Rattle.table.proofs.reduce.rank_of.Goals as goal

pub returns : goal.returns
returns c = rank-read _ c.args.literal
