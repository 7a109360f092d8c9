-- A number of four bytes is two of two, and one of eight is two of four; and the numbers of a table, one by one.
-- Assumes nothing.
use Prim.Native.Nat.{ℕ, ◌+◌, ◌*◌, ◌≤◌, ◌<◌}
use native.Mathlib.Omega.{arith}
use mathlib.Core.Path.{◌≡◌, ap}
use mathlib.Core.List.{List, [], ◌∷◌}
use Rattle.std.specs.Int.{w32, w64, from_le_bytes}
use lib.ListN.{length, get_or, set}
use lib.Dec.{eqb}
use lib.Seq.{get_or-set_same, get_or-set_other}
use Rattle.meaning.proofs.Basics.{by_cases, eqb-true, eqb-false}
use Rattle.shows.specs.Numbers.{counts_for, number_at, EntryOf}

byte_at : (b : List ℕ) (m n : ℕ) → m ≡ n → get_or b m 0 ≡ get_or b n 0
byte_at b m n e = ap (λ (k : ℕ). get_or b k 0) e

pub word_of : (b : List ℕ) (at r : ℕ) → r ≡ from_le_bytes w32 (get_or b at 0 ∷ get_or b (at + 1) 0 ∷ get_or b (at + 2) 0 ∷ get_or b (at + 3) 0 ∷ []) → r ≡ number_at b at 4
unfolding number_at counts_for
word_of b at r e = omega (arith, e, byte_at b (at + 0) at (omega arith))

pub long_of : (b : List ℕ) (at r : ℕ) → r ≡ from_le_bytes w64 (get_or b at 0 ∷ get_or b (at + 1) 0 ∷ get_or b (at + 2) 0 ∷ get_or b (at + 3) 0 ∷ get_or b (at + 4) 0 ∷ get_or b (at + 5) 0 ∷ get_or b (at + 6) 0 ∷ get_or b (at + 7) 0 ∷ []) → r ≡ number_at b at 8
unfolding number_at counts_for
long_of b at r e = omega (arith, e, byte_at b (at + 0) at (omega arith))

pub entry-given : (b : List ℕ) (n k v : ℕ) → k < n → v ≡ get_or b (2 * k) 0 + 256 * get_or b (2 * k + 1) 0 → EntryOf b n k v
unfolding number_at counts_for
entry-given b n k v h e = ((λ l. omega (arith, e, byte_at b (2 * k + 0) (2 * k) (omega arith))), (λ l. omega (arith, h, l)))

-- one number more
pub entry_more : (b t : List ℕ) (n i v : ℕ) → i < length t → ((k : ℕ) → k < i → EntryOf b n k (get_or t k 0)) → EntryOf b n i v → (k : ℕ) → k < i + 1 → EntryOf b n k (get_or (set t i v) k 0)
entry_more b t n i v h f e k l =
    by_cases (eqb k i)
    (λ s. let d : k ≡ i = eqb-true k i s in rw (d, get_or-set_same t i v 0 h) e)
    (λ s. let d = eqb-false k i s in rw (get_or-set_other t i k v 0 d) (f k (omega (arith, l, d))))

-- the number before the place
pub last-counts : (t : List ℕ) (n m : ℕ) → n ≡ m + 1 → (get_or t m 0 ≡ 0 → ⊥) → (k : ℕ) → n ≡ k + 1 → 0 < get_or t k 0
last-counts t n m e z k d = let s : k ≡ m = omega (arith, e, d) in rw s (omega (arith, z))

-- one zero more at the end
pub zero_more : (t : List ℕ) (n m : ℕ) → ((k : ℕ) → n ≤ k → get_or t k 0 ≡ 0) → n ≡ m + 1 → get_or t m 0 ≡ 0 → (k : ℕ) → m ≤ k → get_or t k 0 ≡ 0
zero_more t n m f e z k h = by_cases (eqb k m) (λ s. rw (eqb-true k m s) z) (λ s. f k (omega (arith, h, e, eqb-false k m s)))
