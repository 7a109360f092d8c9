-- Digit by digit comes to the value of all, as long as there are four at most.
-- Assumes nothing.
use Prim.Native.Nat.{ℕ, ◌+◌, ◌-◌, ◌*◌, ◌≤◌, ◌<◌}
use mathlib.Core.Path.{◌≡◌, refl, sym, ap, ◌∙◌}
use mathlib.Core.Bool.{true, cond}
use mathlib.Core.List.{List, [], ◌∷◌}
use native.Mathlib.Omega.{arith}
use borrow.Author.Tests.{lt-ltb, le-ltb}
use lib.ListN.{length, get_or, drop, drop_of_length-le}
use lib.Seq.{drop-cons}
use mathlib.Core.Logic.{inl, inr}
use Rattle.std.proofs.Common.{add-one}
use Rattle.std.specs.Char.{IsNotAsciiDigit}
use Rattle.meaning.specs.Lists.{all_of}
use Rattle.meaning.proofs.Basics.{by_cases}
use Rattle.qdimacs.specs.Bytes.{is_digit, value}
use Rattle.qdimacs.proofs.Words.{digit-range}
use Rattle.scan.proofs.Numbers.{digit-is, digit_low, digit-high}
use Rattle.why.specs.Arguments.{bad, number_in, with_digit}

-- One digit, as the code tests it --------------------------------------------------------------------------------
module _ (n b : ℕ) where
  with-low : b < 48 → bad ≡ with_digit n b
  unfolding with_digit
  with-low h = rw (digit_low b h)

  with-high : 57 < b → bad ≡ with_digit n b
  unfolding with_digit
  with-high h = rw (digit-high b h)

  pub with-none : IsNotAsciiDigit b → bad ≡ with_digit n b
  with-none h = elim h [ inl l ↦ with-low l | inr l ↦ with-high l ]

  with-long : is_digit b ≡ true → 999 < n → bad ≡ with_digit n b
  unfolding with_digit
  with-long d h = rw (d, le-ltb n 1000 h)

  with-more : is_digit b ≡ true → n ≤ 999 → n * 10 + (b - 48) ≡ with_digit n b
  unfolding with_digit
  with-more d h = rw (d, lt-ltb n 1000 (omega arith))

  module _ (l : 48 ≤ b) (h : b ≤ 57) where
    pub with-fifth : 999 < n → bad ≡ with_digit n b
    with-fifth = with-long (digit-is b l h)

    pub with-next : n ≤ 999 → n * 10 + (b - 48) ≡ with_digit n b
    with-next = with-more (digit-is b l h)

-- All digits -----------------------------------------------------------------------------------------------------
digits : ℕ → List ℕ → ℕ
digits n [] = n
digits n (b ∷ w) = digits (with_digit n b) w

digits-bad : (w : List ℕ) → digits bad w ≡ bad
unfolding digits
digits-bad [] = refl
digits-bad (b ∷ w) =
    let e : with_digit bad b ≡ bad = by_cases (is_digit b) (λ d. sym (with-long bad b d (omega arith))) (λ d. unfold with_digit in rw d) in
    rw e (digits-bad w)

-- no digit comes after four
Short : ℕ → List ℕ → Type 0
Short n [] = Unit {0}
Short n (b ∷ w) = (n ≤ 999) × (is_digit b ≡ true → Short (n * 10 + (b - 48)) w)

digits_are : (n : ℕ) (w : List ℕ) → Short n w → digits n w ≡ cond (all_of is_digit w) (value n w) bad
unfolding all_of value digits Short
digits_are n [] s = refl
digits_are n (b ∷ w) s =
    by_cases (is_digit b)
    (λ d. rw (sym (with-more n b d s.0), d) (digits_are (n * 10 + (b - 48)) w (s.1 d)))
    (λ d. let e : with_digit n b ≡ bad = unfold with_digit in rw d in rw (e, d) (digits-bad w))

short : (w : List ℕ) → length w ≤ 4 → Short 0 w
unfolding Short
short [] h = tt
short (a ∷ []) h = (omega arith, λ p. tt)
short (a ∷ b ∷ []) h = (omega arith, λ p. (omega (arith, digit-range a p), λ q. tt))
short (a ∷ b ∷ c ∷ []) h = (omega arith, λ p. (omega (arith, digit-range a p), λ q. (omega (arith, digit-range a p, digit-range b q), λ r. tt)))
short (a ∷ b ∷ c ∷ d ∷ []) h =
    (omega arith, λ p. (omega (arith, digit-range a p), λ q. (omega (arith, digit-range a p, digit-range b q), λ r. (omega (arith, digit-range a p, digit-range b q, digit-range c r), λ s. tt))))
short (a ∷ b ∷ c ∷ d ∷ e ∷ w) h = absurd (omega arith)

-- The digits one after the other ----------------------------------------------------------------------------------
-- n and the digits from place i on come to what all of them come to
pub Rest : ℕ → ℕ → List ℕ → Type 0
Rest n i w = digits n (drop i w) ≡ digits 0 w

pub rest-first : (w : List ℕ) → Rest 0 0 w
unfolding Rest
rest-first w = refl

-- one digit more
step : (n i : ℕ) (w : List ℕ) → i < length w → Rest n i w → digits (with_digit n (get_or w i 0)) (drop (i + 1) w) ≡ digits 0 w
unfolding Rest digits
step n i w h r = rw add-one (rw (drop-cons w i 0 h) at r)

pub rest-next : (n i m : ℕ) (w : List ℕ) → i < length w → Rest n i w → m ≡ with_digit n (get_or w i 0) → Rest m (i + 1) w
unfolding Rest
rest-next n i m w h r e = rw e (step n i w h r)

all-digits : (w : List ℕ) → length w ≤ 4 → digits 0 w ≡ number_in w
unfolding number_in
all-digits w h = digits_are 0 w (short w h)

pub rest-stop : (n i : ℕ) (w : List ℕ) → i < length w → length w ≤ 4 → Rest n i w → bad ≡ with_digit n (get_or w i 0) → bad ≡ number_in w
rest-stop n i w h l r e = sym (digits-bad (drop (i + 1) w)) ∙ ap (λ (m : ℕ). digits m (drop (i + 1) w)) e ∙ step n i w h r ∙ all-digits w l

pub rest-last : (n i : ℕ) (w : List ℕ) → length w ≤ i → length w ≤ 4 → Rest n i w → n ≡ number_in w
unfolding Rest digits
rest-last n i w h l r = (rw (drop_of_length-le w h) at r) ∙ all-digits w l
