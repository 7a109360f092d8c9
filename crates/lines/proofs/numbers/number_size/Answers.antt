use mathlib.Core.Path.{sym}
use native.Mathlib.Omega.{arith}
use Rattle.lines.proofs.Sizes.{size-one, size-two, size-three, size-four, size-five}
use Rattle.lines.proofs.numbers.number_size.Goals as goal

pub returns-in-0-to-9 : goal.returns-in-0-to-9
returns-in-0-to-9 c = record { is = sym (size-one _ (omega arith)); few = omega arith }

pub returns-in-10-to-99 : goal.returns-in-10-to-99
returns-in-10-to-99 c = record { is = sym (size-two _ (omega arith) (omega arith)); few = omega arith }

pub returns-in-100-to-999 : goal.returns-in-100-to-999
returns-in-100-to-999 c = record { is = sym (size-three _ (omega arith) (omega arith)); few = omega arith }

pub returns-in-1000-to-9999 : goal.returns-in-1000-to-9999
returns-in-1000-to-9999 c = record { is = sym (size-four _ (omega arith) (omega arith)); few = omega arith }

pub returns-in_default : goal.returns-in_default
returns-in_default c = record { is = sym (size-five _ (omega arith) (omega arith)); few = omega arith }
