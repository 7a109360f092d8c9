-- Flags: a bit for each number, 64 of them to a word.
-- Assumes nothing.
use Rattle.std.specs.Prelude.{ℕ, ◌/◌, ◌%◌, ◌^◌, Bool, List, eqb, get_or, set}
use Rattle.std.specs.Int.Bits.{bit_or}

-- the flag of number j
unfoldable pub flag : List ℕ → ℕ → Bool
flag w j = eqb (get_or w (j / 64) 0 / 2 ^ (j % 64) % 2) 1

-- the words with that flag raised
unfoldable pub raised : List ℕ → ℕ → List ℕ
raised w j = set w (j / 64) (bit_or (get_or w (j / 64) 0) (2 ^ (j % 64)))
