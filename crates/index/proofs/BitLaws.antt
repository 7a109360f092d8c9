-- Bits of words: m is a part of w where m put into w makes no difference.
-- Assumes nothing.
use Prim.Native.Nat.{ℕ, ◌+◌, ◌*◌, ◌/◌, ◌%◌, ◌^◌, ◌<◌, max}
use mathlib.Core.Path.{◌≡◌, refl, sym, ap, ap₂, ◌∙◌}
use native.Mathlib.Nat.{one-mul, mod-eq_of_lt}
use native.Mathlib.Omega.{arith}
use lib.Arith.{bin_ind, digits_mod}
use lib.Bits.{bit_or, or_step, or_shr, or_comm, or_self}
use lib.Pow.{pow-lt}

-- a bit that is shifted in
pub bit_is : (k : ℕ) → k < 16 → 1 * 2 ^ k % 65536 ≡ 2 ^ k
bit_is k h = ap (λ (n : ℕ). n % 65536) (one-mul (2 ^ k)) ∙ mod-eq_of_lt (pow-lt h)

or-low : (a b : ℕ) → bit_or a b % 2 ≡ max (a % 2) (b % 2)
or-low a b = ap (λ (n : ℕ). n % 2) (or_step a b) ∙ digits_mod (bit_or (a / 2) (b / 2)) (omega arith)

or_assoc : (a b c : ℕ) → bit_or (bit_or a b) c ≡ bit_or a (bit_or b c)
or_assoc =
    bin_ind (λ (n : ℕ). (b c : ℕ) → bit_or (bit_or n b) c ≡ bit_or n (bit_or b c)) (λ b c. refl)
    (λ n ih b c.
    or_step (bit_or n b) c
    ∙ ap₂ (λ (x y : ℕ). bit_or x (c / 2) * 2 + max y (c % 2)) (or_shr n b 1) (or-low n b)
    ∙ ap₂ (λ (x y : ℕ). x * 2 + y) (ih (b / 2) (c / 2)) (omega arith)
    ∙ sym (or_step n (bit_or b c) ∙ ap₂ (λ (x y : ℕ). bit_or (n / 2) x * 2 + max (n % 2) y) (or_shr b c 1) (or-low b c)))

-- what is put in is a part
pub part-own : (w m : ℕ) → bit_or (bit_or w m) m ≡ bit_or w m
part-own w m = or_assoc w m m ∙ ap (bit_or w) (or_self m)

-- and stays one, whatever else is put in
pub part_stays : (w m k : ℕ) → bit_or w m ≡ w → bit_or (bit_or w k) m ≡ bit_or w k
part_stays w m k e =
    or_assoc w k m ∙ ap (bit_or w) (or_comm k m) ∙ sym (or_assoc w m k) ∙ ap (λ (x : ℕ). bit_or x k) e

-- two parts together are one
pub part-both : (w m k : ℕ) → bit_or w m ≡ w → bit_or w k ≡ w → bit_or w (bit_or m k) ≡ w
part-both w m k e f = sym (or_assoc w m k) ∙ ap (λ (x : ℕ). bit_or x k) e ∙ f
