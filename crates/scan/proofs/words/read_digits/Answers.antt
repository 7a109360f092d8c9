use mathlib.Core.Path.{refl}
use native.Mathlib.Omega.{arith}
use Rattle.scan.proofs.Numbers.{digits-left, digits-over, digits-turn, digit-is, digit_low, digit-high}
use Rattle.scan.proofs.words.read_digits.Goals as goal

pub loop-b-init : goal.loop-b-init
loop-b-init c = record { small = omega arith; same-value = refl; same-all = refl }

pub with_digit-v-requires : goal.with_digit-v-requires
with_digit-v-requires c = (c.loop-b.invariant.small, digit-is _ (omega arith) (omega arith))

pub returns-in_default : goal.returns-in_default
returns-in_default c = digits-left _ _ _ c.loop-b.invariant (omega arith) (digit_low _ (omega arith))

pub returns-in_default-2 : goal.returns-in_default-2
returns-in_default-2 c = digits-left _ _ _ c.loop-b.invariant (omega arith) (digit-high _ (omega arith))

pub loop-b-preserved : goal.loop-b-preserved
loop-b-preserved c = digits-turn _ _ _ c.loop-b.invariant _ (omega arith) (digit-is _ (omega arith) (omega arith)) c.with_digit-v.ensures

pub returns : goal.returns
returns c = digits-over _ _ _ c.loop-b.invariant (omega arith)
