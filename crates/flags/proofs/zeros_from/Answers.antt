-- The word is shifted, and its zeros are counted.
-- Assumes nothing.
use Prim.Native.Nat.{◌/◌, ◌^◌}
use mathlib.Core.Path.{refl}
use native.Mathlib.Omega.{arith}
use lib.Count.{trailing_le}
use Rattle.flags.proofs.ZeroLaws.{from_at, from-below}
use Rattle.flags.proofs.zeros_from.Goals as goal

pub returns-then-bit-zeros-lt64-clause-result_value : goal.returns-then-bit-zeros-lt64-clause-result_value
returns-then-bit-zeros-lt64-clause-result_value c = λ h. from_at c.args.word c.args.bit _ refl (omega (arith, h))

pub returns-then-bit-zeros-lt64-clause-by_index : goal.returns-then-bit-zeros-lt64-clause-by_index
returns-then-bit-zeros-lt64-clause-by_index c = from-below c.args.word c.args.bit

pub returns-clause-by_index : goal.returns-clause-by_index
returns-clause-by_index c = λ k h. from-below c.args.word c.args.bit k (omega (arith, h, c.if-bit-zeros-lt64.false))
