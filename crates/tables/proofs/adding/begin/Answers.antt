-- Zeros hold the empty formula, and no prefix has zero ranks.
-- Assumes nothing.
use mathlib.Core.Bool.{false}
use Rattle.table.proofs.ReadyLaws.{ready-empty, ranked-none}
use Rattle.tables.proofs.adding.begin.Goals as goal

pub returns : goal.returns
returns c = ready-empty _ _ _ false c.zero.ensures c.empty.ensures (ranked-none _ _ c.rank_prefix.ensures)
