-- Bytes and tokens of a text (document 01, "Reading and writing"). A text is the list of its bytes.
-- Assumes nothing.
use Rattle.std.specs.Prelude.{Bool, true, false, not, cond, ◌&&◌, ◌||◌, List, [], ◌∷◌, ℕ, suc, ◌+◌, ◌-◌, ◌*◌, leb, eqb, length, take, drop}
use Prim.Native.Char.{code}
use Rattle.meaning.specs.Lists.{all_of}

-- "bytes other than space, tab, CR, LF"
unfoldable pub is_blank : ℕ → Bool
is_blank b = eqb b (code " ") || eqb b (code "\t") || eqb b (code "\r") || eqb b (code "\n")

unfoldable pub is_solid : ℕ → Bool
is_solid b = not (is_blank b)

unfoldable pub is_digit : ℕ → Bool
is_digit b = leb (code "0") b && leb b (code "9")

-- how many bytes at the front pass the test
unfoldable pub span : (ℕ → Bool) → List ℕ → ℕ
span p [] = 0
span p (b ∷ bs) = cond (p b) (suc (span p bs)) 0

-- a token: the offset of its first byte, and its bytes
pub record Token : Type 0 where
  pub at : ℕ
  pub bytes : List ℕ

-- "Tokens are runs of bytes other than space, tab, CR, LF": one starts at each solid byte that follows no solid byte.
-- The first argument says whether a token is running; the second is the offset of the list's first byte.
unfoldable pub tokens_from : Bool → ℕ → List ℕ → List Token
tokens_from inside i [] = []
tokens_from true i (b ∷ bs) = tokens_from (is_solid b) (suc i) bs
tokens_from false i (b ∷ bs) =
    cond (is_solid b)
    (record { at = i; bytes = b ∷ take (span is_solid bs) bs } ∷ tokens_from true (suc i) bs)
    (tokens_from false (suc i) bs)

-- "Before `p`, a token that starts with `c` runs to the next LF or the end": how many bytes stand before the first token
-- that is no such comment. The first argument says whether a comment is running.
unfoldable pub preamble : Bool → List ℕ → ℕ
preamble inside [] = 0
preamble true (b ∷ bs) = suc (preamble (not (eqb b (code "\n"))) bs)
preamble false (b ∷ bs) = cond (is_blank b) (suc (preamble false bs)) (cond (eqb b (code "c")) (suc (preamble true bs)) 0)

-- the tokens of a text, its comments left out
unfoldable pub tokens : List ℕ → List Token
tokens s = tokens_from false (preamble false s) (drop (preamble false s) s)

-- the value of digits, after those that gave `acc`
unfoldable pub value : ℕ → List ℕ → ℕ
value acc [] = acc
value acc (b ∷ bs) = value (acc * 10 + (b - code "0")) bs

-- "Numerals have no plus and no leading zero"
unfoldable pub is_numeral : List ℕ → Bool
is_numeral [] = false
is_numeral (b ∷ bs) = all_of is_digit (b ∷ bs) && (not (eqb b (code "0")) || eqb (length bs) 0)
