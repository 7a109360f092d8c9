-- The loop's invariant: the two clauses are merged so far.
-- Assumes nothing.
use Prim.Native.Nat.{◌+◌, ◌-◌}
use lib.ListN.{length}
use Rattle.merging.specs.Merging.{Merges}
use Rattle.merging.proofs.merge_in.Given as goal

abbrev pub invariant-loop-m : goal.invariant-loop-m
invariant-loop-m l = Merges l.out l.x l.y l.scratch l.m

abbrev pub decreases-loop-m : goal.decreases-loop-m
decreases-loop-m l = length l.x + length l.y - (l.m.first + l.m.second)
