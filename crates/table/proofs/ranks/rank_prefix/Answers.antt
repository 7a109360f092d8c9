-- The loop's invariant: the entries so far are good, and ranked.
-- Assumes nothing.
use native.Mathlib.Omega.{arith}
use borrow.Author.Rules.{rules}
use lib.ListN.{take}
use lib.Seq.{length-take-le}
use Rattle.table.proofs.RankLaws.{ranking-start, ranking-new, ranking-small, ranking-turn, ranking-fails, ranking-end}
use Rattle.table.proofs.ranks.rank_prefix.Goals as goal

pub loop-i-init : goal.loop-i-init
loop-i-init c = (c.requires, ranking-start _ _ (search rules) c.no_ranks.ensures)

pub add_rank-requires : goal.add_rank-requires
add_rank-requires c = (omega (arith, c.loop-i.invariant.1.within, c.loop-i.invariant.0), ranking-small _ _ c.loop-i.i c.loop-i.invariant.1 (omega arith) _ (c.is_new.ensures _ c.loop-i.invariant.1.table) c.if-not-is_new.false)

pub returns-then-not-is_new : goal.returns-then-not-is_new
returns-then-not-is_new c = ranking-fails _ _ c.loop-i.i c.loop-i.invariant.1 (omega arith) _ (c.is_new.ensures _ c.loop-i.invariant.1.table) c.if-not-is_new.true _

pub loop-i-preserved : goal.loop-i-preserved
loop-i-preserved c =
    let w = c.is_new.ensures _ c.loop-i.invariant.1.table in
    (c.loop-i.invariant.0, ranking-turn _ _ c.loop-i.i c.loop-i.invariant.1 (omega arith) _ w c.if-not-is_new.false _ (search rules) (c.add_rank.ensures (take c.loop-i.i _) (length-take-le _ _ c.loop-i.invariant.1.within) (ranking-new _ _ c.loop-i.i c.loop-i.invariant.1 (omega arith) _ w c.if-not-is_new.false) c.loop-i.invariant.1.table))

pub returns : goal.returns
returns c = ranking-end _ _ c.loop-i.i c.loop-i.invariant.1 (omega arith)
