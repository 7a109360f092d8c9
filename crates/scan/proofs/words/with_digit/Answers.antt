use native.Mathlib.Omega.{arith}
use Rattle.qdimacs.specs.Bytes.{value}
use Rattle.qdimacs.proofs.Words.{digit-range}
use Rattle.scan.proofs.words.with_digit.Goals as goal

pub overflow_sub-b : goal.overflow_sub-b
overflow_sub-b c = omega (arith, (digit-range _ c.requires.1).0)

pub returns : goal.returns
unfolding value
returns c = rw (c.min.ensures, c.from.ensures)
