-- The lowest set bit of a word, by the count of the zeros below it.
-- Assumes nothing.
use Prim.Native.Nat.{ℕ, zero, suc, ◌+◌, ◌-◌, ◌/◌, ◌%◌, ◌^◌, ◌≤◌, ◌<◌}
use mathlib.Core.Path.{◌≡◌, refl, sym, ap, ◌∙◌}
use mathlib.Core.Bool.{true, false}
use mathlib.Core.List.{List}
use native.Mathlib.Nat.{div-one, le_of_suc-le-suc}
use native.Mathlib.Numerals.{one-add}
use native.Mathlib.Omega.{arith}
use lib.Count.{count_trailing_zeros, under}
use lib.Dec.{ltb}
use lib.ListN.{get_or}
use lib.Pow.{shr-shr}
use borrow.Author.Tests.{ltb-true, ltb-false}
use Rattle.meaning.proofs.Basics.{by_cases}
use Rattle.flags.specs.Flags.{flag}

-- bit s + 1 of a word is bit s of its half
bit-half : (n s : ℕ) → n / 2 ^ suc s % 2 ≡ n / 2 / 2 ^ s % 2
bit-half n s = ap (λ (x : ℕ). x % 2) (sym (shr-shr n 1 s ∙ ap (λ (x : ℕ). n / 2 ^ x) (one-add s)))

-- below the lowest set bit all are 0
pub zeros-below : (k n s : ℕ) → s < count_trailing_zeros k n → n / 2 ^ s % 2 ≡ 0
unfolding count_trailing_zeros
zeros-below zero n s h = absurd (omega (arith, h))
zeros-below (suc k) n s h = go (zeros-below k (n / 2)) (n % 2) refl s h
  where
    go : ((s : ℕ) → s < count_trailing_zeros k (n / 2) → n / 2 / 2 ^ s % 2 ≡ 0) → (d : ℕ) → n % 2 ≡ d → (s : ℕ) → s < under d (count_trailing_zeros k (n / 2)) → n / 2 ^ s % 2 ≡ 0
    go ih zero e zero h = ap (λ (x : ℕ). x % 2) (div-one n) ∙ e
    go ih zero e (suc s) h = bit-half n s ∙ ih s (le_of_suc-le-suc h)
    go ih (suc d) e s h = absurd (omega (arith, h))

-- and it is 1, where there is one
pub zeros-at : (k n : ℕ) → count_trailing_zeros k n < k → n / 2 ^ count_trailing_zeros k n % 2 ≡ 1
unfolding count_trailing_zeros
zeros-at zero n h = absurd (omega (arith, h))
zeros-at (suc k) n h = go (zeros-at k (n / 2)) (n % 2) refl h
  where
    go : (count_trailing_zeros k (n / 2) < k → n / 2 / 2 ^ count_trailing_zeros k (n / 2) % 2 ≡ 1) → (d : ℕ) → n % 2 ≡ d → under d (count_trailing_zeros k (n / 2)) < suc k → n / 2 ^ under d (count_trailing_zeros k (n / 2)) % 2 ≡ 1
    go ih zero e h = bit-half n (count_trailing_zeros k (n / 2)) ∙ ih (le_of_suc-le-suc h)
    go ih (suc d) e h = ap (λ (x : ℕ). x % 2) (div-one n) ∙ omega (arith, e)

-- The same of the bits from one on --------------------------------------------------------------------------------
module _ (w bit : ℕ) where
  pub from_at : (r : ℕ) → r ≡ count_trailing_zeros 64 (w / 2 ^ bit) → r < 64 → w / 2 ^ (bit + r) % 2 ≡ 1
  from_at r is h = ap (λ (x : ℕ). x % 2) (sym (shr-shr w bit r)) ∙ rw is (zeros-at 64 (w / 2 ^ bit) (rw is at h))

  pub from-below : (s : ℕ) → s < count_trailing_zeros 64 (w / 2 ^ bit) → w / 2 ^ (bit + s) % 2 ≡ 0
  from-below s h = ap (λ (x : ℕ). x % 2) (sym (shr-shr w bit s)) ∙ zeros-below 64 (w / 2 ^ bit) s h

-- The flags of a word -----------------------------------------------------------------------------------------------
module _ (w : List ℕ) (i z : ℕ) where
  pub flag_at : get_or w (i / 64) 0 / 2 ^ (i % 64 + z) % 2 ≡ 1 → i % 64 + z < 64 → flag w (i + z) ≡ true
  unfolding flag
  flag_at e h = let p : (i + z) / 64 ≡ i / 64 = omega (arith, h) in let q : (i + z) % 64 ≡ i % 64 + z = omega (arith, h) in rw (p, q, e)

  -- of the numbers before i, from one on, no flag is raised; nor of those before the next bit that is 1
  pub none-until : ((s : ℕ) → s < z → get_or w (i / 64) 0 / 2 ^ (i % 64 + s) % 2 ≡ 0) → i % 64 + z ≤ 64 → (from : ℕ) → ((k : ℕ) → from ≤ k → k < i → flag w k ≡ false)
      → (k : ℕ) → from ≤ k → k < i + z → flag w k ≡ false
  unfolding flag
  none-until n u from none k f l =
      by_cases (ltb k i) (λ e. none k f (ltb-true k i e))
      (λ e.
      let h = ltb-false k i e in
      let p : k / 64 ≡ i / 64 = omega (arith, h, l, u) in
      let q : k % 64 ≡ i % 64 + (k - i) = omega (arith, h, l, u) in
      rw (p, q, n (k - i) (omega (arith, h, l))))
