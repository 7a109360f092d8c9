-- What a token is (document 01, "Reading and writing").
-- Assumes nothing.
use Rattle.std.specs.Prelude.{not, cond, ◌&&◌, List, [], ◌∷◌, ℕ, eqb}
use Rattle.std.proofs.Math.Option.{Option, none, some}
use Prim.Native.Char.{code}
use Rattle.meaning.specs.Lists.{same}
use Rattle.meaning.specs.Formula.{plain, negated}
use Rattle.qdimacs.specs.Bytes.{value, is_numeral}
use Rattle.qdimacs.specs.declared.Word.{Word}
use Rattle.qdimacs.specs.declared.Word.TheVariants.{P, Cnf, E, A, Plain, Minus, Other}

-- a numeral, of any length; a minus stands before a numeral, and not before 0
unfoldable pub number_of : List ℕ → Word
number_of [] = Other
number_of (b ∷ bs) =
    cond (eqb b (code "-"))
    (cond (is_numeral bs && not (eqb (value 0 bs) 0)) (Minus (value 0 bs)) Other)
    (cond (is_numeral (b ∷ bs)) (Plain (value 0 (b ∷ bs))) Other)

-- a token of one byte: `p`, `e`, `a`, or a digit
unfoldable pub letter_of : ℕ → Word
letter_of b = cond (eqb b (code "p")) P (cond (eqb b (code "e")) E (cond (eqb b (code "a")) A (number_of (b ∷ []))))

-- a longer one: `cnf`, or a number
unfoldable pub word_of : List ℕ → Word
word_of [] = Other
word_of (b ∷ []) = letter_of b
word_of (b ∷ c ∷ bs) = cond (same (b ∷ c ∷ bs) (code "c" ∷ code "n" ∷ code "f" ∷ [])) Cnf (number_of (b ∷ c ∷ bs))

-- the variable of a word, 0 if it is no number
unfoldable pub variable_of : Word → ℕ
variable_of P = 0
variable_of Cnf = 0
variable_of E = 0
variable_of A = 0
variable_of (Plain n) = n
variable_of (Minus n) = n
variable_of Other = 0

-- a number without a minus
unfoldable pub plain_of : Word → Option ℕ
plain_of P = none
plain_of Cnf = none
plain_of E = none
plain_of A = none
plain_of (Plain n) = some n
plain_of (Minus n) = none
plain_of Other = none

-- a number in a clause, as a literal; 0 is the closing `0`
unfoldable pub literal_of : Word → Option ℕ
literal_of P = none
literal_of Cnf = none
literal_of E = none
literal_of A = none
literal_of (Plain n) = some (plain n)
literal_of (Minus n) = some (negated n)
literal_of Other = none
