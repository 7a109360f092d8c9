-- The invariant: the literals that are left make the rest of the slot.
-- Assumes nothing.
use mathlib.Core.Path.{refl}
use native.Mathlib.Omega.{arith}
use Rattle.marks.specs.Marks.{slot_on, slot_of}
use Rattle.meaning.proofs.Folds.{fold-turn, fold_end}
use Rattle.marks.proofs.slot_of.Goals as goal

pub loop-literal-init : goal.loop-literal-init
unfolding slot_of
loop-literal-init c = (omega arith, omega arith, refl)

pub overflow_cast-h : goal.overflow_cast-h
overflow_cast-h c = omega (arith, c.type_inv.clause c.loop-literal.literal-index)

pub overflow_add-h : goal.overflow_add-h
overflow_add-h c = omega (arith, c.type_inv.clause c.loop-literal.literal-index)

pub loop-literal-preserved : goal.loop-literal-preserved
unfolding slot_on
loop-literal-preserved c = (omega arith, omega arith, fold-turn slot_on 0 _ c.loop-literal.literal-index c.loop-literal.h c.loop-literal.invariant.2 c.loop-literal-test.true)

pub returns : goal.returns
returns c = fold_end slot_on 0 _ c.loop-literal.literal-index c.loop-literal.h c.loop-literal.invariant.2 (omega arith)
