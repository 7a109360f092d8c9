-- The loop's invariant: what stays of the literals so far stands at the front.
-- Assumes nothing.
use Rattle.table.specs.Ranks.{stays_by}
use Rattle.table.proofs.CompactLaws.{Compacted}
use Rattle.table.proofs.reduce.reduce_in.Given as goal

abbrev pub invariant-loop-i : goal.invariant-loop-i
invariant-loop-i l = Compacted (stays_by l.ranks l.last) l.initial.scratch l.n l.scratch l.i l.j
