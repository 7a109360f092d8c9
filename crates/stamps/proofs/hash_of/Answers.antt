-- The invariant: the literals that are left make the rest of the hash.
-- Assumes nothing.
use mathlib.Core.Path.{refl}
use native.Mathlib.Omega.{arith}
use Rattle.meaning.proofs.Folds.{fold-turn, fold_end}
use Rattle.stamps.specs.Stamp.{hash_on, hash_of}
use Rattle.stamps.proofs.hash_of.Goals as goal

pub loop-literal-init : goal.loop-literal-init
unfolding hash_of
loop-literal-init c = (omega arith, omega arith, refl)

pub overflow_cast-h : goal.overflow_cast-h
overflow_cast-h c = omega (arith, c.type_inv.clause c.loop-literal.literal-index)

pub overflow_add-h : goal.overflow_add-h
overflow_add-h c = omega (arith, c.type_inv.clause c.loop-literal.literal-index)

pub overflow_mul-h : goal.overflow_mul-h
overflow_mul-h c = omega (arith, c.type_inv.clause c.loop-literal.literal-index)

pub loop-literal-preserved : goal.loop-literal-preserved
unfolding hash_on
loop-literal-preserved c = (omega arith, omega arith, fold-turn hash_on 0 _ c.loop-literal.literal-index c.loop-literal.h c.loop-literal.invariant.2 c.loop-literal-test.true)

pub returns : goal.returns
returns c = fold_end hash_on 0 _ c.loop-literal.literal-index c.loop-literal.h c.loop-literal.invariant.2 (omega arith)
