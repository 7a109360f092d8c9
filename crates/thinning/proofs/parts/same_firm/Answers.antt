-- The loop's invariant: at i and j stand the next literals that stay, and what is left from there decides.
-- Assumes nothing.
use Rattle.table.specs.Ranks.{stays_by}
use Rattle.thinning.proofs.ReadLaws.{walk-longer, walk-differs, walk_turn, walk_end}
use Rattle.thinning.proofs.parts.same_firm.Goals.{then-b-j-via-then-b-j, then-b-j-via-else-b-j+then-a-i}
use Rattle.thinning.proofs.parts.same_firm.Goals as goal

pub returns-then-b-j : goal.returns-then-b-j
returns-then-b-j c =
    elim c.then-b-j.branch [
      | then-b-j-via-then-b-j w ↦ walk-longer (stays_by _ _) (stays_by _ _) _ _ c.loop-i.i c.loop-i.j c.loop-i.invariant.4 c.loop-i-test.true (c.loop-i.invariant.2 c.loop-i-test.true) w.if-b-j.true
      | then-b-j-via-else-b-j+then-a-i w ↦ walk-differs (stays_by _ _) (stays_by _ _) _ _ c.loop-i.i c.loop-i.j c.loop-i.invariant.4 c.loop-i-test.true (c.loop-i.invariant.2 c.loop-i-test.true) w.if-b-j.false (c.loop-i.invariant.3 w.if-b-j.false) w.if-a-i.true
    ]

pub loop-i-preserved : goal.loop-i-preserved
loop-i-preserved c = (c.next_firm-i-in-loop-i.ensures.within, c.next_firm-j-in-loop-i.ensures.within, c.next_firm-i-in-loop-i.ensures.passes, c.next_firm-j-in-loop-i.ensures.passes, walk_turn (stays_by _ _) (stays_by _ _) _ _ c.loop-i.i c.loop-i.j c.loop-i.invariant.4 c.loop-i-test.true (c.loop-i.invariant.2 c.loop-i-test.true) c.if-b-j.false (c.loop-i.invariant.3 c.if-b-j.false) c.if-a-i.false _ _ c.next_firm-i-in-loop-i.ensures c.next_firm-j-in-loop-i.ensures)

pub returns : goal.returns
returns c = walk_end (stays_by _ _) (stays_by _ _) _ _ c.loop-i.i c.loop-i.j c.loop-i.invariant.4 c.loop-i-test.false c.loop-i.invariant.3
