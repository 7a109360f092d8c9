-- A filter: words of 64 bits that have the stamps of clauses. Two clauses may have the same stamp, and a stamp may be there because
-- others have its bits; but a stamp that was put in is there, so a clause that is not stamped is none of those that were put in.
-- Assumes nothing.
use Rattle.std.specs.Prelude.{Bool, ℕ, ◌+◌, ◌*◌, ◌/◌, ◌%◌, ◌^◌, eqb, length, get_or, set}
use mathlib.Core.List.{List, foldl}
use Rattle.std.specs.Int.Bits.{bit_or}

-- a number of 32 bits, literal by literal. The factor is about 2 ^ 32 divided by the golden ratio's square: its product spreads
-- clauses that are alike over the high bits, from which the stamp is taken. Any number would do for what is proved.
unfoldable pub hash_on : ℕ → ℕ → ℕ
hash_on h l = (h + l) * 1640531527 % 4294967296

unfoldable pub hash_of : List ℕ → ℕ
hash_of c = foldl hash_on 0 c

-- the stamp's place in a filter of n words, in parts of a word, of which a word has 2 ^ 32: the highest bits of the hash tell the word,
-- the next 6 and the 6 after them a bit in it
unfoldable pub place_of : ℕ → List ℕ → ℕ
place_of n c = hash_of c * n

unfoldable pub word_of : ℕ → ℕ
word_of p = p / 4294967296

unfoldable pub bits_of : ℕ → ℕ
bits_of p = bit_or (2 ^ (p / 67108864 % 64)) (2 ^ (p / 1048576 % 64))

-- the word of a clause's stamp with the stamp's bits
unfoldable pub marked : List ℕ → List ℕ → ℕ
marked f c = bit_or (get_or f (word_of (place_of (length f) c)) 0) (bits_of (place_of (length f) c))

-- the filter with the clause's stamp
unfoldable pub with_stamp : List ℕ → List ℕ → List ℕ
with_stamp f c = set f (word_of (place_of (length f) c)) (marked f c)

-- the stamp is there: to put it in would change nothing
unfoldable pub stamped : List ℕ → List ℕ → Bool
stamped f c = eqb (get_or f (word_of (place_of (length f) c)) 0) (marked f c)
