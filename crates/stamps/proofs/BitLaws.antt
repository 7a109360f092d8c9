-- Bits of words: bits that are put in stay, whatever is put in later.
-- Assumes nothing.
use Prim.Native.Nat.{ℕ, ◌+◌, ◌*◌, ◌/◌, ◌%◌, ◌^◌, ◌<◌, max}
use mathlib.Core.Path.{◌≡◌, refl, sym, ap, ap₂, ◌∙◌}
use native.Mathlib.Nat.{one-mul, mod-eq_of_lt}
use native.Mathlib.Omega.{arith}
use lib.Arith.{bin_ind, digits_mod}
use lib.Bits.{bit_or, or_step, or_shr, or_comm, or_self}
use lib.Pow.{pow-lt}

-- a bit that is shifted in
pub bit_is : (k : ℕ) → k < 64 → 1 * 2 ^ k % 18446744073709551616 ≡ 2 ^ k
bit_is k h = ap (λ (n : ℕ). n % 18446744073709551616) (one-mul (2 ^ k)) ∙ mod-eq_of_lt (pow-lt h)

or-low : (a b : ℕ) → bit_or a b % 2 ≡ max (a % 2) (b % 2)
or-low a b = ap (λ (n : ℕ). n % 2) (or_step a b) ∙ digits_mod (bit_or (a / 2) (b / 2)) (omega arith)

or_assoc : (a b c : ℕ) → bit_or (bit_or a b) c ≡ bit_or a (bit_or b c)
or_assoc =
    bin_ind (λ (n : ℕ). (b c : ℕ) → bit_or (bit_or n b) c ≡ bit_or n (bit_or b c)) (λ b c. refl)
    (λ n ih b c.
    or_step (bit_or n b) c
    ∙ ap₂ (λ (x y : ℕ). bit_or x (c / 2) * 2 + max y (c % 2)) (or_shr n b 1) (or-low n b)
    ∙ ap₂ (λ (x y : ℕ). x * 2 + y) (ih (b / 2) (c / 2)) (omega arith)
    ∙ sym (or_step n (bit_or b c) ∙ ap₂ (λ (x y : ℕ). bit_or (n / 2) x * 2 + max (n % 2) y) (or_shr b c 1) (or-low b c)))

-- the bits m are there once they are put in
pub put-own : (w m : ℕ) → bit_or w m ≡ bit_or (bit_or w m) m
put-own w m = sym (or_assoc w m m ∙ ap (bit_or w) (or_self m))

-- the bits m were there, and k are put in
pub put-more : (w m k : ℕ) → w ≡ bit_or w m → bit_or w k ≡ bit_or (bit_or w k) m
put-more w m k e =
    ap (λ (x : ℕ). bit_or x k) e
    ∙ or_assoc w m k ∙ ap (bit_or w) (or_comm m k) ∙ sym (or_assoc w k m)
