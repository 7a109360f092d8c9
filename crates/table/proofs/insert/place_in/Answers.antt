-- The list rises, so the numbers below x are its first ones.
-- Assumes nothing.
use Rattle.std.proofs.Common.{ltb, rules, tests}
use Rattle.std.proofs.lemmas.List.Sorted.{IsPartitionPoint-from_clause}
use Rattle.table.proofs.RisingLaws.{rising-parted, count-parted}
use Rattle.table.proofs.insert.place_in.Goals as goal

pub returns : goal.returns
returns c =
    count-parted c.args.s.now c.args.x _ c.partition_point.ensures.bound
    (IsPartitionPoint-from_clause (λ y. ltb y c.args.x) _ _ c.partition_point.ensures.partitioned (rising-parted _ _ c.requires) (λ a r q k. search (rules, tests)))
