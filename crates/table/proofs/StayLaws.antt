-- The loops and tests of src/reduce.rt, by their definitions in specs/Ranks.antt.
-- Assumes nothing.
use Prim.Native.Nat.{ℕ, ◌+◌, ◌/◌, ◌%◌, ◌≤◌, ◌<◌, max}
use mathlib.Core.Path.{◌≡◌, refl, sym, ap, ◌∙◌}
use mathlib.Core.Bool.{true, false}
use mathlib.Core.List.{List}
use lib.ListN.{length, get_or, take, drop, drop_of_length-le}
use lib.Seq.{drop-cons}
use lib.Dec.{ltb}
use borrow.Author.Tests.{leb-true}
use native.Mathlib.Omega.{arith}
use native.Mathlib.Numerals.{add-one}
use Rattle.meaning.specs.Lists.{all_of, keep_if}
use Rattle.meaning.specs.Formula.{var, odd}
use Rattle.table.specs.Ranks.{small, rank_at, place_at, later_by, last_by, stays_by, reduced_by}
use Rattle.meaning.proofs.Literals.{odd-of, even-of}
use Rattle.table.proofs.LoopLaws.{all_get_d}
use Rattle.table.proofs.CompactLaws.{Compacted, compacted-end}

pub small-below : (l : ℕ) → small l ≡ true → l < 2048
unfolding small var
small-below l h = let k = leb-true (l / 2) 1023 h in omega arith

pub small_at : (c : List ℕ) (i : ℕ) → all_of small c ≡ true → i < length c → get_or c i 0 < 2048
small_at c i a h = small-below (get_or c i 0) (all_get_d small 0 c i a h)

-- x is an item of a clause
pub small_item : (c : List ℕ) (k x : ℕ) → all_of small c ≡ true → k < length c → x ≡ get_or c k x → x < 2048
small_item c k x a n e = small-below x (ap small e ∙ all_get_d small x c k a n)

pub rank-read : (ranks : List ℕ) (l : ℕ) → get_or ranks (l / 2) 0 ≡ rank_at ranks l
unfolding rank_at var
rank-read ranks l = refl

-- r is the rank of the literal
module _ (ranks : List ℕ) (e l r : ℕ) (q : r ≡ rank_at ranks l) where
  is_odd : r % 2 ≡ 1 → odd (rank_at ranks l) ≡ true
  is_odd h = ap odd (sym q) ∙ odd-of r h

  is-even : (r % 2 ≡ 1 → ⊥) → odd (rank_at ranks l) ≡ false
  is-even h = ap odd (sym q) ∙ even-of r (omega arith)

  pub later-none : r % 2 ≡ 1 → e ≡ later_by ranks e l
  unfolding later_by
  later-none h = rw (is_odd h)

  pub later-most : (r % 2 ≡ 1 → ⊥) → max e (r / 2) ≡ later_by ranks e l
  unfolding later_by place_at
  later-most h = rw (is-even h, ← q)

  pub stays-left : r % 2 ≡ 1 → ltb (r / 2) e ≡ stays_by ranks e l
  unfolding stays_by place_at
  stays-left h = rw (is_odd h, ← q)

  pub stays-exists : (r % 2 ≡ 1 → ⊥) → true ≡ stays_by ranks e l
  unfolding stays_by
  stays-exists h = rw (is-even h)

-- the rightmost existential, from the left: e is that of the literals so far, and x the next
pub last_turn : (ranks c : List ℕ) (e i x y : ℕ) → last_by ranks e (drop i c) ≡ y → i < length c → x ≡ later_by ranks e (get_or c i 0) → last_by ranks x (drop (i + 1) c) ≡ y
unfolding last_by
last_turn ranks c e i x y inv h q = rw (q, add-one) (rw (drop-cons c i 0) at inv)

pub last_end : (ranks c : List ℕ) (e i y : ℕ) → last_by ranks e (drop i c) ≡ y → length c ≤ i → e ≡ y
unfolding last_by
last_end ranks c e i y inv h = rw (drop_of_length-le c {i = i} h) at inv

-- the compacting loop ends with the reduced clause
pub reduced-end : (ranks : List ℕ) (e : ℕ) (s₀ : List ℕ) (n : ℕ) (s : List ℕ) (i j : ℕ) → Compacted (stays_by ranks e) s₀ n s i j → n ≤ i → e ≡ last_by ranks 0 (take n s₀) → take j s ≡ reduced_by ranks (take n s₀)
unfolding reduced_by
reduced-end ranks e s₀ n s i j h k q =
    compacted-end (stays_by ranks e) s₀ n s i j h k ∙ ap (λ (x : ℕ). keep_if (stays_by ranks x) (take n s₀)) q
