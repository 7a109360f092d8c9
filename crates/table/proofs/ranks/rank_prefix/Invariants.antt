-- The loop's invariant: the entries so far are good, and ranked.
-- Assumes nothing.
use Prim.Native.Nat.{◌≤◌}
use lib.ListN.{length}
use Rattle.table.proofs.RankLaws.{Ranking}
use Rattle.table.proofs.ranks.rank_prefix.Given as goal

abbrev pub invariant-loop-i : goal.invariant-loop-i
invariant-loop-i l = (length l.prefix ≤ 1023) × Ranking l.prefix l.ranks l.i
