-- The loop's invariant: what stays of the literals so far stands at the front.
-- Assumes nothing.
use mathlib.Core.Path.{sym, ◌∙◌}
use native.Mathlib.Omega.{arith}
use lib.Seq.{length-take-le}
use Rattle.table.specs.Ranks.{small}
use Rattle.table.proofs.StayLaws.{small-below, reduced-end}
use Rattle.table.proofs.CompactLaws.{compacted-start, compacted-all, compacted-keep, compacted-skip}
use Rattle.table.proofs.reduce.reduce_in.Goals as goal
use Rattle.table.proofs.reduce.reduce_in.Goals.{then-stays_by, else-stays_by}

pub slice_bounds-last_by-end : goal.slice_bounds-last_by-end
slice_bounds-last_by-end c = c.requires.0

pub slice_bounds-last_by-end-2 : goal.slice_bounds-last_by-end-2
slice_bounds-last_by-end-2 c = sym (length-take-le _ _ c.requires.0)

pub last_by-last-requires : goal.last_by-last-requires
last_by-last-requires c = c.requires.1

pub loop-i-init : goal.loop-i-init
loop-i-init c = compacted-start _ _ _

pub offset_bounds-scratch-i : goal.offset_bounds-scratch-i
offset_bounds-scratch-i c = omega (arith, c.requires.0, c.well_formed.0)

pub bounds-scratch-i : goal.bounds-scratch-i
bounds-scratch-i c = omega (arith, c.requires.0)

pub stays_by-requires : goal.stays_by-requires
stays_by-requires c = small-below _ (compacted-all _ _ _ c.requires.0 _ c.loop-i.i _ c.loop-i.invariant (omega arith) small c.requires.1)

pub offset_bounds-scratch-j : goal.offset_bounds-scratch-j
offset_bounds-scratch-j c = omega (arith, c.requires.0, c.well_formed.0, c.loop-i.invariant.behind, c.loop-i.invariant.long)

pub bounds-scratch-j : goal.bounds-scratch-j
bounds-scratch-j c = omega (arith, c.requires.0, c.loop-i.invariant.behind, c.loop-i.invariant.long)

pub overflow_add-j : goal.overflow_add-j
overflow_add-j c = omega (arith, c.requires.0, c.well_formed.0, c.loop-i.invariant.behind)

pub loop-i-preserved : goal.loop-i-preserved
loop-i-preserved c =
    elim c.if-stays_by.branch [
      | then-stays_by w ↦ rw (w.scratch-is, w.j-is) (compacted-keep _ _ _ c.requires.0 _ c.loop-i.i _ c.loop-i.invariant (omega arith) (sym c.stays_by.ensures ∙ w.if-stays_by.true))
      | else-stays_by w ↦ rw (w.scratch-is, w.j-is) (compacted-skip _ _ _ c.requires.0 _ c.loop-i.i _ c.loop-i.invariant (omega arith) (sym c.stays_by.ensures ∙ w.if-stays_by.false))
    ]

pub returns : goal.returns
returns c = (omega (arith, c.loop-i.invariant.within, c.loop-i.invariant.behind), reduced-end _ _ _ _ _ c.loop-i.i _ c.loop-i.invariant (omega arith) c.last_by-last.ensures)
