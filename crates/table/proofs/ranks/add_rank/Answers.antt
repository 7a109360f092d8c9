-- One entry more is one store.
-- Assumes nothing.
use Rattle.table.proofs.RankLaws.{rank-more}
use Rattle.table.proofs.ranks.add_rank.Goals as goal

pub returns : goal.returns
returns c = λ p l out e. rank-more p c.args.entry c.args.n _ l out c.requires.1 e
