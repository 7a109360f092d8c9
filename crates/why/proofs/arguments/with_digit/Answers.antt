-- Each test is one of the definition's.
-- Assumes nothing.
use native.Mathlib.Omega.{arith}
use Rattle.why.proofs.ArgumentLaws.{with-none, with-fifth, with-next}
use Rattle.why.proofs.arguments.with_digit.Goals.{else-is_ascii_digit-via-then-is_ascii_digit+else-n-lt1000, else-is_ascii_digit-via-else-is_ascii_digit}
use Rattle.why.proofs.arguments.with_digit.Goals as goal

pub returns-then-n-lt1000-clause-value : goal.returns-then-n-lt1000-clause-value
returns-then-n-lt1000-clause-value c = rw c.from.ensures (with-next c.args.n c.args.b c.if-is_ascii_digit.ensures.cases.0 c.if-is_ascii_digit.ensures.cases.1 (omega arith))

pub returns-clause-value : goal.returns-clause-value
returns-clause-value c =
    elim c.else-is_ascii_digit.branch [
      | else-is_ascii_digit-via-then-is_ascii_digit+else-n-lt1000 w ↦ with-fifth c.args.n c.args.b w.if-is_ascii_digit.ensures.cases.0 w.if-is_ascii_digit.ensures.cases.1 w.if-n-lt1000.false
      | else-is_ascii_digit-via-else-is_ascii_digit w ↦ with-none c.args.n c.args.b w.if-is_ascii_digit.ensures.cases
    ]
