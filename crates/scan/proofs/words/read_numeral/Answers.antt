use mathlib.Core.Path.{sym, ◌∙◌}
use mathlib.Core.Logic.{inl, inr}
use native.Mathlib.Omega.{arith}
use borrow.Author.Tests.{eqb-true, eqb-false}
use Rattle.scan.proofs.Numbers.{numeral-empty, numeral-zero, numeral-digits}
use Rattle.scan.proofs.words.read_numeral.Goals.{else-word-gt1-via-then-word-gt1+else-word-eq48, else-word-gt1-via-else-word-gt1}
use Rattle.scan.proofs.words.read_numeral.Goals as goal

pub returns-then-is_empty : goal.returns-then-is_empty
returns-then-is_empty c = numeral-empty _ (eqb-true _ _ (sym c.is_empty.ensures ∙ c.if-is_empty.true))

pub returns-then-word-eq48 : goal.returns-then-word-eq48
returns-then-word-eq48 c = numeral-zero _ (omega arith) c.if-word-eq48.true

pub returns : goal.returns
returns c =
    c.read_digits.ensures ∙ numeral-digits _ (eqb-false _ _ (sym c.is_empty.ensures ∙ c.if-is_empty.false)) (elim c.else-word-gt1.branch [
      | else-word-gt1-via-then-word-gt1+else-word-eq48 w ↦ inr w.if-word-eq48.false
      | else-word-gt1-via-else-word-gt1 w ↦ inl w.if-word-gt1.false
    ])
