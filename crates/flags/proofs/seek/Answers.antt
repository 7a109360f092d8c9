-- The loop's invariant: of the numbers that were passed over no flag is raised.
-- Assumes nothing.
use native.Mathlib.Omega.{arith}
use Rattle.flags.proofs.ZeroLaws.{flag_at, none-until}
use Rattle.flags.proofs.seek.Goals as goal

pub returns-then-to-i-clause-by_index : goal.returns-then-to-i-clause-by_index
returns-then-to-i-clause-by_index c = λ k f h. none-until _ _ _ c.zeros_from-zeros.ensures.by_index c.zeros_from-zeros.ensures.result_bound _ c.loop-i.invariant.2 k f (omega (arith, h, c.if-to-i.true))

pub returns-then-bit-zeros-lt64-clause-result_value : goal.returns-then-bit-zeros-lt64-clause-result_value
returns-then-bit-zeros-lt64-clause-result_value c = λ _. flag_at _ _ _ (c.zeros_from-zeros.ensures.result_value c.if-bit-zeros-lt64.true) c.if-bit-zeros-lt64.true

pub returns-then-bit-zeros-lt64-clause-by_index : goal.returns-then-bit-zeros-lt64-clause-by_index
returns-then-bit-zeros-lt64-clause-by_index c = none-until _ _ _ c.zeros_from-zeros.ensures.by_index c.zeros_from-zeros.ensures.result_bound _ c.loop-i.invariant.2

pub loop-i-preserved : goal.loop-i-preserved
loop-i-preserved c = (omega (arith, c.loop-i.invariant.0), omega (arith, c.if-to-i.false), none-until _ _ _ c.zeros_from-zeros.ensures.by_index c.zeros_from-zeros.ensures.result_bound _ c.loop-i.invariant.2)
