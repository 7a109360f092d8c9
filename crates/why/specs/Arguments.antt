-- The number that the bytes of an argument write.
-- Assumes nothing.
use Rattle.std.specs.Prelude.{ℕ, ◌+◌, ◌-◌, ◌*◌, cond, List, ltb}
use Prim.Native.Char.{code}
use Rattle.meaning.specs.Lists.{all_of}
use Rattle.qdimacs.specs.Bytes.{is_digit, value}

-- what is no number of at most four digits
abbrev pub bad : ℕ
bad = 10000

-- the value of digits
unfoldable pub number_in : List ℕ → ℕ
number_in w = cond (all_of is_digit w) (value 0 w) bad

-- a number of at most three digits, with one more
unfoldable pub with_digit : ℕ → ℕ → ℕ
with_digit n b = cond (is_digit b) (cond (ltb n 1000) (n * 10 + (b - code "0")) bad) bad
