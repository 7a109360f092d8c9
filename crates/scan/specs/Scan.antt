-- Where the next token of a text stands, for a scanner that goes by offsets.
-- Assumes nothing.
use Rattle.std.specs.Prelude.{cond, List, ℕ, ◌+◌, ltb, length, drop, Bool, true, false, Option, Some, None}
use Rattle.qdimacs.specs.Bytes.{is_blank, is_solid, span}

-- where the first token at or after an offset starts, and where one that starts there ends
unfoldable pub token_start : List ℕ → ℕ → ℕ
token_start s i = i + span is_blank (drop i s)

unfoldable pub token_end : List ℕ → ℕ → ℕ
token_end s i = i + span is_solid (drop i s)

-- either of them, by whether blanks are passed or what is none
abbrev pub passes : Bool → ℕ → Bool
passes true = is_blank
passes false = is_solid

abbrev pub run_end : Bool → List ℕ → ℕ → ℕ
run_end blank s i = i + span (passes blank) (drop i s)

-- the next token at or after an offset
unfoldable pub next_in : List ℕ → ℕ → Option (ℕ × ℕ)
next_in s i = cond (ltb (token_start s i) (length s)) (Some (token_start s i, token_end s (token_start s i))) None
