-- The loop's invariant: the literals so far are counted.
-- Assumes nothing.
use mathlib.Core.Path.{◌∙◌}
use native.Mathlib.Omega.{arith}
use lib.ListN.{length-set}
use Rattle.index.proofs.StartLaws.{count-start, count_fits, count_turn, count-end}
use Rattle.index.proofs.starts.count_literals.Goals as goal

pub loop-literal-init : goal.loop-literal-init
loop-literal-init c = (c.requires.1, c.requires.2, c.zero.auto.t ∙ c.requires.0, count-start _ c.args.literals.now c.zero.ensures)

pub overflow_cast-l : goal.overflow_cast-l
overflow_cast-l c = omega (arith, c.type_inv.literals c.loop-literal.literal-index)

pub offset_bounds-index-l : goal.offset_bounds-index-l
offset_bounds-index-l c = omega (arith, c.type_inv.literals c.loop-literal.literal-index)

pub bounds-index-l : goal.bounds-index-l
bounds-index-l c =
    let f = count_fits _ _ c.loop-literal.literal-index c.loop-literal.invariant.3 c.loop-literal.invariant.1 (omega arith) in
    omega arith

pub overflow_add-index : goal.overflow_add-index
overflow_add-index c =
    let f = count_fits _ _ c.loop-literal.literal-index c.loop-literal.invariant.3 c.loop-literal.invariant.1 (omega arith) in
    omega arith

pub bounds-index-l-in-loop-literal : goal.bounds-index-l-in-loop-literal
bounds-index-l-in-loop-literal c =
    let f = count_fits _ _ c.loop-literal.literal-index c.loop-literal.invariant.3 c.loop-literal.invariant.1 (omega arith) in
    omega arith

pub loop-literal-preserved : goal.loop-literal-preserved
loop-literal-preserved c = (c.loop-literal.invariant.0, c.loop-literal.invariant.1, simp length-set c.loop-literal.invariant.2, count_turn _ _ c.loop-literal.literal-index c.loop-literal.invariant.3 c.loop-literal.invariant.1 (omega arith))

pub returns : goal.returns
returns c = count-end _ _ c.loop-literal.literal-index c.loop-literal.invariant.3 (omega arith)
