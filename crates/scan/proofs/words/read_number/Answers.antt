use mathlib.Core.Path.{sym, ◌∙◌}
use native.Mathlib.Omega.{arith}
use Rattle.scan.proofs.Numbers.{number-empty, minus-zero, minus-value, minus-not, plain_value, plain-not}
use Rattle.scan.proofs.words.read_number.Goals as goal

pub returns-in-empty : goal.returns-in-empty
returns-in-empty c = number-empty _ (omega arith)

pub returns-then-v-eq0 : goal.returns-then-v-eq0
returns-then-v-eq0 c = minus-zero _ (omega arith) c.if-first-eq45.true _ (sym c.in-Some.is ∙ c.read_numeral.ensures) c.if-v-eq0.true

pub returns-else-v-eq0 : goal.returns-else-v-eq0
returns-else-v-eq0 c = minus-value _ (omega arith) c.if-first-eq45.true _ (sym c.in-Some.is ∙ c.read_numeral.ensures) c.if-v-eq0.false

pub returns-in-None : goal.returns-in-None
returns-in-None c = minus-not _ (omega arith) c.if-first-eq45.true (sym c.in-None.is ∙ c.read_numeral.ensures)

pub returns-in-Some-read_numeral : goal.returns-in-Some-read_numeral
returns-in-Some-read_numeral c =
    plain_value _ (omega arith) c.if-first-eq45.false _ (sym c.in-Some-read_numeral.is ∙ c.read_numeral-in_default.ensures)

pub returns-in-None-read_numeral : goal.returns-in-None-read_numeral
returns-in-None-read_numeral c = plain-not _ (omega arith) c.if-first-eq45.false (sym c.in-None-read_numeral.is ∙ c.read_numeral-in_default.ensures)
