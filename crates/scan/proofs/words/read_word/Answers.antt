use mathlib.Core.Path.{sym, ◌∙◌, ap}
use native.Mathlib.Omega.{arith}
use Rattle.qdimacs.specs.Words.{letter_of}
use Rattle.scan.specs.Cut.{sat_word}
use Rattle.scan.proofs.Numbers.{cnf-test, word-one, word-cnf, word-other, letter-other}
use Rattle.scan.proofs.words.read_word.Goals as goal

pub returns-then-eq : goal.returns-then-eq
returns-then-eq c = word-cnf _ (cnf-test _ c.eq.ensures c.as_slice.ensures ∙ c.if-eq.true)

pub returns-then-word-ne1 : goal.returns-then-word-ne1
returns-then-word-ne1 c =
    c.read_number.ensures ∙ ap sat_word (sym (word-other _ (cnf-test _ c.eq.ensures c.as_slice.ensures ∙ c.if-eq.false) c.if-word-ne1.true))

pub returns-in-112 : goal.returns-in-112
unfolding letter_of sat_word
returns-in-112 c = rw (word-one _ c.if-word-ne1.false, c.in-112.is)

pub returns-in-101 : goal.returns-in-101
unfolding letter_of sat_word
returns-in-101 c = rw (word-one _ c.if-word-ne1.false, c.in-101.is)

pub returns-in-97 : goal.returns-in-97
unfolding letter_of sat_word
returns-in-97 c = rw (word-one _ c.if-word-ne1.false, c.in-97.is)

pub returns-in_default : goal.returns-in_default
returns-in_default c = c.read_number-in_default.ensures ∙ ap sat_word (sym (letter-other _ c.if-word-ne1.false (omega arith) (omega arith) (omega arith)))
