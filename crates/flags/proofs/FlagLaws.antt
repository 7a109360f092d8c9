-- What a raised flag changes: itself alone.
-- Assumes nothing.
use Prim.Native.Nat.{ℕ, suc, ◌+◌, ◌-◌, ◌*◌, ◌/◌, ◌%◌, ◌^◌, ◌<◌, max}
use mathlib.Core.Path.{◌≡◌, sym, ap, ◌∙◌}
use mathlib.Core.Bool.{true, false}
use mathlib.Core.List.{List}
use native.Mathlib.Nat.{one-mul, pow-suc, div-eq_of_lt, zero-div}
use native.Mathlib.Omega.{arith}
use lib.Bits.{bit_or, or_step, or_shr}
use lib.Dec.{eqb, ltb}
use lib.ListN.{length, get_or, replicate, get_or-replicate}
use lib.Pow.{pow-add, pow-lt, shl-shr}
use lib.Seq.{get_or-set_same, get_or-set_other}
use Rattle.meaning.proofs.Basics.{by_cases, eqb-true, eqb-false, eqb-eq}
use borrow.Author.Tests.{ltb-true, ltb-false}
use lib.Arith.{digits_mod}
use Rattle.flags.specs.Flags.{flag, raised}

-- Bit i of a word in which only bit j is set --------------------------------------------------------------------
bit-own : (i : ℕ) → 2 ^ i / 2 ^ i % 2 ≡ 1
bit-own i = ap (λ (n : ℕ). n % 2) (ap (λ (n : ℕ). n / 2 ^ i) (sym (one-mul (2 ^ i))) ∙ shl-shr 1 i)

bit-above : (d i : ℕ) → 2 ^ (suc d + i) / 2 ^ i % 2 ≡ 0
bit-above d i =
    ap (λ (n : ℕ). n / 2 ^ i % 2) (pow-add 2 (suc d) i) ∙ ap (λ (n : ℕ). n % 2) (shl-shr (2 ^ suc d) i ∙ pow-suc 2 d) ∙ even (2 ^ d)
  where
    even : (n : ℕ) → n * 2 % 2 ≡ 0
    even n = omega arith

bit_below : (i j : ℕ) → j < i → 2 ^ j / 2 ^ i % 2 ≡ 0
bit_below i j h = ap (λ (n : ℕ). n % 2) (div-eq_of_lt (pow-lt h))

bit-other : (i j : ℕ) → (i ≡ j → ⊥) → 2 ^ j / 2 ^ i % 2 ≡ 0
bit-other i j n =
    by_cases (ltb i j)
    (λ h. let up : suc (j - i - 1) + i ≡ j = omega (arith, ltb-true i j h) in ap (λ (k : ℕ). 2 ^ k / 2 ^ i % 2) (sym up) ∙ bit-above (j - i - 1) i)
    (λ h. bit_below i j (omega (arith, ltb-false i j h, n)))

-- a bit more in a word
or-low : (a b : ℕ) → bit_or a b % 2 ≡ max (a % 2) (b % 2)
or-low a b = ap (λ (n : ℕ). n % 2) (or_step a b) ∙ digits_mod (bit_or (a / 2) (b / 2)) (omega arith)

or-bit : (w b i : ℕ) → bit_or w b / 2 ^ i % 2 ≡ max (w / 2 ^ i % 2) (b / 2 ^ i % 2)
or-bit w b i = ap (λ (n : ℕ). n % 2) (or_shr w b i) ∙ or-low (w / 2 ^ i) (b / 2 ^ i)

-- Flags ---------------------------------------------------------------------------------------------------------
pub flag-none : (n j : ℕ) → j < 64 * n → flag (replicate n 0) j ≡ false
unfolding flag
flag-none n j h = rw (get_or-replicate {A = ℕ} n (j / 64) 0 0 (omega (arith, h)), zero-div (2 ^ (j % 64)))

module _ (w : List ℕ) (j : ℕ) (h : j < 64 * length w) where
  within : j / 64 < length w
  within = omega (arith, h)

  -- what becomes of bit b of the word that is changed
  changed : (b : ℕ) → get_or (raised w j) (j / 64) 0 / 2 ^ b % 2 ≡ max (get_or w (j / 64) 0 / 2 ^ b % 2) (2 ^ (j % 64) / 2 ^ b % 2)
  unfolding raised
  changed b = rw (get_or-set_same w (j / 64) (bit_or (get_or w (j / 64) 0) (2 ^ (j % 64))) 0 within) (or-bit (get_or w (j / 64) 0) (2 ^ (j % 64)) b)

  pub flag-own : flag (raised w j) j ≡ true
  unfolding flag
  flag-own =
      let e = changed (j % 64) ∙ ap (λ (n : ℕ). max (get_or w (j / 64) 0 / 2 ^ (j % 64) % 2) n) (bit-own (j % 64)) in
      eqb-eq (e ∙ top (get_or w (j / 64) 0 / 2 ^ (j % 64)))
    where
      top : (n : ℕ) → max (n % 2) 1 ≡ 1
      top n = omega arith

  -- bit i of the words, where i is not j
  module _ (i : ℕ) (n : i ≡ j → ⊥) where
    same : i / 64 ≡ j / 64 → get_or (raised w j) (i / 64) 0 / 2 ^ (i % 64) % 2 ≡ get_or w (i / 64) 0 / 2 ^ (i % 64) % 2
    same e =
        rw e (changed (i % 64) ∙ ap (λ (b : ℕ). max (get_or w (j / 64) 0 / 2 ^ (i % 64) % 2) b) (bit-other (i % 64) (j % 64) (λ q. n (omega (arith, e, q)))) ∙ low (get_or w (j / 64) 0 / 2 ^ (i % 64)))
      where
        low : (b : ℕ) → max (b % 2) 0 ≡ b % 2
        low b = omega arith

    apart : (i / 64 ≡ j / 64 → ⊥) → get_or (raised w j) (i / 64) 0 / 2 ^ (i % 64) % 2 ≡ get_or w (i / 64) 0 / 2 ^ (i % 64) % 2
    unfolding raised
    apart q = rw (get_or-set_other w (j / 64) (i / 64) (bit_or (get_or w (j / 64) 0) (2 ^ (j % 64))) 0 q)

    pub flag-other : flag (raised w j) i ≡ flag w i
    unfolding flag
    flag-other = ap (λ (b : ℕ). eqb b 1) (by_cases (eqb (i / 64) (j / 64)) (λ e. same (eqb-true (i / 64) (j / 64) e)) (λ e. apart (eqb-false (i / 64) (j / 64) e)))
