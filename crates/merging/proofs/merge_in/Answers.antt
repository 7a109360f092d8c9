-- The loop's invariant: the two clauses are merged so far.
-- Assumes nothing.
use borrow.Author.Rules.{rules}
use native.Mathlib.Omega.{arith}
use Rattle.merging.proofs.MergeLaws.{clause-few}
use Rattle.merging.proofs.MergeTurns.{merge-start, merge-dropped, merge-end}
use Rattle.merging.proofs.merge_in.Goals as goal

pub loop-m-init : goal.loop-m-init
loop-m-init c = merge-start _ _ _ _ (search rules) c.requires.ordered.0 c.requires.ordered.1

pub overflow_add-m : goal.overflow_add-m
overflow_add-m c = omega (arith, c.loop-m.invariant.first, c.loop-m.invariant.second, clause-few _ c.requires.ordered.0, clause-few _ c.requires.ordered.1)

pub overflow_add-x : goal.overflow_add-x
overflow_add-x c = omega (arith, clause-few _ c.requires.ordered.0, clause-few _ c.requires.ordered.1)

pub merge_next-requires-clause-merges : goal.merge_next-requires-clause-merges
merge_next-requires-clause-merges c = c.loop-m.invariant

pub merge_next-requires-clause-out_bound : goal.merge_next-requires-clause-out_bound
merge_next-requires-clause-out_bound c = (c.requires.out_bound, c.loop-m-test.true)

pub loop-m-smaller : goal.loop-m-smaller
loop-m-smaller c = omega (arith, c.in_ok-m.ensures.0, c.loop-m-test.true)

pub loop-m-preserved : goal.loop-m-preserved
loop-m-preserved c = c.in_ok-m.ensures.1

pub returns : goal.returns
returns c = merge-end _ _ _ _ _ c.loop-m.invariant c.loop-m-test.false c.requires.ordered.0 c.requires.ordered.1

pub returns-in_err-m : goal.returns-in_err-m
returns-in_err-m c = rw c.from_residual.ensures (merge-dropped _ _ _ _ (search rules) c.requires.ordered.0 c.requires.ordered.1 c.in_err-m.ensures)
