-- Numbers cut off at 2,048. M, C and each variable are less, so that all numbers from there on are alike to a reader
-- (`sat-decide`, of proofs/Cut.antt).
-- Assumes nothing.
use Rattle.std.specs.Prelude.{cond, List, ℕ, min, Option, Some, None}
use Rattle.meaning.specs.Lists.{all_of}
use Rattle.qdimacs.specs.Bytes.{is_digit, value, is_numeral}
use Rattle.qdimacs.specs.declared.Word.{Word}
use Rattle.qdimacs.specs.declared.Word.TheVariants.{P, Cnf, E, A, Plain, Minus, Other}

abbrev pub most : ℕ
most = 2048

abbrev pub sat : ℕ → ℕ
sat n = min n most

-- a word with its number cut off
unfoldable pub sat_word : Word → Word
sat_word P = P
sat_word Cnf = Cnf
sat_word E = E
sat_word A = A
sat_word (Plain n) = Plain (sat n)
sat_word (Minus n) = Minus (sat n)
sat_word Other = Other

-- the value of digits, and of a numeral, cut off; or none
unfoldable pub digits_in : List ℕ → Option ℕ
digits_in w = cond (all_of is_digit w) (Some (sat (value 0 w))) None

unfoldable pub numeral_in : List ℕ → Option ℕ
numeral_in w = cond (is_numeral w) (Some (sat (value 0 w))) None
