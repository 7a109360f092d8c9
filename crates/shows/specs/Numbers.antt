-- Numbers as bytes, the least significant first.
-- Assumes nothing.
use Rattle.std.specs.Prelude.{ℕ, zero, suc, ◌+◌, ◌*◌, ◌≤◌, ◌<◌, ◌≡◌, List, get_or}

-- what a byte counts that has n before it
unfoldable pub counts_for : ℕ → ℕ
counts_for zero = 1
counts_for (suc n) = 256 * counts_for n

-- the number of n bytes from a place on
unfoldable pub number_at : List ℕ → ℕ → ℕ → ℕ
number_at b at zero = 0
number_at b at (suc n) = number_at b at n + counts_for n * get_or b (at + n) 0

-- v is number k of a table of which the first n numbers are given, two bytes each; the others are zero
abbrev pub EntryOf : List ℕ → ℕ → ℕ → ℕ → Type 0
EntryOf b n k v = (k < n → v ≡ number_at b (2 * k) 2) × (n ≤ k → v ≡ 0)

-- the first `size` numbers of t are those of such a table
abbrev pub Filled : List ℕ → ℕ → ℕ → List ℕ → Type 0
Filled b n size t = (k : ℕ) → k < size → EntryOf b n k (get_or t k 0)
