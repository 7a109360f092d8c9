-- Numbers as they are written and read: the digits of a number are a numeral of its value, and what word that is.
-- Assumes nothing.
use mathlib.Core.Path.{◌≡◌, refl, ap, ◌∙◌}
use mathlib.Core.Bool.{Bool, true, false, not, ◌&&◌, ◌||◌, or-true, false≢true}
use mathlib.Core.List.{List, [], ◌∷◌, ◌++◌}
use Prim.Native.Nat.{ℕ, zero, suc, ◌+◌, ◌-◌, ◌*◌, ◌/◌, ◌%◌, ◌≤◌, ◌<◌}
use Prim.Native.Char.{code}
use native.Mathlib.Omega.{arith}
use borrow.Author.Tests.{ne_eqb, lt-ltb, le-ltb, ltb-true, ltb-false, leb-true, le-leb, eqb-true}
use lib.Dec.{leb, ltb, eqb}
use lib.ListN.{length}
use Rattle.meaning.specs.Lists.{all_of, same}
use Rattle.qdimacs.specs.Bytes.{is_digit, value, is_numeral}
use Rattle.qdimacs.specs.Words.{number_of, letter_of, word_of}
use Rattle.qdimacs.specs.Write.{digits, decimal}
use Rattle.qdimacs.specs.declared.Word.TheVariants.{Plain, Minus}
use Rattle.meaning.proofs.Basics.{by_cases, and_l, and_r, or_elim, not-true}
use Rattle.meaning.proofs.Lists.{all_append}

-- Digits -----------------------------------------------------------------------------------------------------
-- enough fuel is enough
digits-fuel : (k j n : ℕ) → n ≤ k → n ≤ j → digits k n ≡ digits j n
unfolding digits
digits-fuel zero zero n h g = refl
digits-fuel zero (suc j) n h g = rw (lt-ltb n 10 (omega arith))
digits-fuel (suc k) zero n h g = rw (lt-ltb n 10 (omega arith))
digits-fuel (suc k) (suc j) n h g =
    by_cases (ltb n 10) (λ e. rw e) (λ e. let l = ltb-false n 10 e in rw (e, digits-fuel k j (n / 10) (omega arith) (omega arith)))

pub decimal-short : (n : ℕ) → n < 10 → decimal n ≡ (code "0" + n) ∷ []
unfolding decimal digits
decimal-short zero h = refl
decimal-short (suc n) h = rw (lt-ltb (suc n) 10 h)

pub decimal-long : (n : ℕ) → 10 ≤ n → decimal n ≡ decimal (n / 10) ++ ((code "0" + n % 10) ∷ [])
unfolding decimal digits
decimal-long zero h = absurd (omega arith)
decimal-long (suc n) h =
    rw (le-ltb (suc n) 10 h) (ap {B = List ℕ} (λ l. l ++ ((code "0" + suc n % 10) ∷ [])) (digits-fuel n (suc n / 10) (suc n / 10) (omega arith) (omega arith)))

-- what holds of one digit, and of a number where it holds of the number without its last digit, holds of every number
module _ (Q : ℕ → Type 0) (one : (n : ℕ) → n < 10 → Q n) (more : (n : ℕ) → 10 ≤ n → Q (n / 10) → Q n) where
  by-fuel : (k n : ℕ) → n ≤ k → Q n
  by-fuel zero n h = one n (omega arith)
  by-fuel (suc k) n h = by_cases (ltb n 10) (λ e. one n (ltb-true n 10 e)) (λ e. let l = ltb-false n 10 e in more n l (by-fuel k (n / 10) (omega arith)))

  pub by_digits : (n : ℕ) → Q n
  by_digits n = by-fuel n n (omega arith)

digit-is : (d : ℕ) → d < 10 → is_digit (code "0" + d) ≡ true
unfolding is_digit
digit-is d h = rw (le-leb (code "0") (code "0" + d) (omega arith), le-leb (code "0" + d) (code "9") (omega arith))

pub digit-range : (b : ℕ) → is_digit b ≡ true → (code "0" ≤ b) × (b ≤ code "9")
unfolding is_digit
digit-range b h = (leb-true (code "0") b (search and_l), leb-true b (code "9") (and_r (leb (code "0") b) (leb b (code "9")) h))

value-snoc : (xs : List ℕ) (m d : ℕ) → value m (xs ++ (d ∷ [])) ≡ value m xs * 10 + (d - code "0")
unfolding value
value-snoc [] m d = refl
value-snoc (x ∷ xs) m d = value-snoc xs (m * 10 + (x - code "0")) d

-- a numeral of a value over 0 has no zero in front, and stays one with a digit more
lead : (b : ℕ) (bs : List ℕ) → is_numeral (b ∷ bs) ≡ true → 0 < value 0 (b ∷ bs) → eqb b (code "0") ≡ false
unfolding is_numeral value
lead b [] h p = ne_eqb b (code "0") (omega arith)
lead b (c ∷ bs) h p =
    or_elim (not (eqb b (code "0"))) (eqb (suc (length bs)) 0) (and_r (all_of is_digit (b ∷ c ∷ bs)) (not (eqb b (code "0")) || eqb (suc (length bs)) 0) h)
    (not-true (eqb b (code "0")))
    (λ e. let z = eqb-true (suc (length bs)) 0 e in absurd (omega arith))

numeral-snoc : (w : List ℕ) (d : ℕ) → is_numeral w ≡ true → 0 < value 0 w → is_digit d ≡ true → is_numeral (w ++ (d ∷ [])) ≡ true
unfolding is_numeral all_of
numeral-snoc [] d h p e = absurd (false≢true h)
numeral-snoc (b ∷ bs) d h p e = rw (lead b bs h p, all_append is_digit bs (d ∷ []), e) (rest (is_digit b) (all_of is_digit bs) (not (eqb b (code "0")) || eqb (length bs) 0) h)
  where
    rest : (s t u : Bool) → ((s && t) && u) ≡ true → ((s && (t && true)) && true) ≡ true
    rest true true u k = refl
    rest true false u k = k
    rest false t u k = k

-- what is written of a number is a numeral of its value
pub decimal-value : (n : ℕ) → value 0 (decimal n) ≡ n
unfolding value
decimal-value =
    by_digits (λ n. value 0 (decimal n) ≡ n) (λ n h. rw (decimal-short n h) (omega arith))
    (λ n h ih. rw (decimal-long n h, value-snoc (decimal (n / 10)) 0 (code "0" + n % 10), ih) (omega arith))

pub decimal-numeral : (n : ℕ) → is_numeral (decimal n) ≡ true
unfolding is_numeral all_of
decimal-numeral =
    by_digits (λ n. is_numeral (decimal n) ≡ true) (λ n h. rw (decimal-short n h, digit-is n h) (or-true (not (eqb (code "0" + n) (code "0")))))
    (λ n h ih. rw (decimal-long n h) (numeral-snoc (decimal (n / 10)) (code "0" + n % 10) ih (rw (decimal-value (n / 10)) (omega arith)) (digit-is (n % 10) (omega arith))))

-- Words ------------------------------------------------------------------------------------------------------
pub numeral-digits : (w : List ℕ) → is_numeral w ≡ true → (0 < length w) × (all_of is_digit w ≡ true)
unfolding is_numeral
numeral-digits [] h = absurd (false≢true h)
numeral-digits (b ∷ bs) h = (omega arith, search and_l)

first-digit : (b : ℕ) (bs : List ℕ) → is_numeral (b ∷ bs) ≡ true → (code "0" ≤ b) × (b ≤ code "9")
unfolding is_numeral all_of
first-digit b bs h = digit-range b (search and_l)

-- a numeral is no letter, nor `cnf`, and has no minus
numeral-number : (b : ℕ) (bs : List ℕ) → is_numeral (b ∷ bs) ≡ true → number_of (b ∷ bs) ≡ Plain (value 0 (b ∷ bs))
unfolding number_of
numeral-number b bs h = let r = first-digit b bs h in rw (ne_eqb b (code "-") (omega arith), h)

pub numeral-word : (w : List ℕ) → is_numeral w ≡ true → word_of w ≡ Plain (value 0 w)
unfolding word_of letter_of same
numeral-word [] h = unfold is_numeral in absurd (false≢true h)
numeral-word (b ∷ []) h =
    let r = first-digit b [] h in
    rw (ne_eqb b (code "p") (omega arith), ne_eqb b (code "e") (omega arith), ne_eqb b (code "a") (omega arith)) (numeral-number b [] h)
numeral-word (b ∷ c ∷ bs) h = let r = first-digit b (c ∷ bs) h in rw (ne_eqb b (code "c") (omega arith)) (numeral-number b (c ∷ bs) h)

minus-numeral : (w : List ℕ) → is_numeral w ≡ true → 0 < value 0 w → word_of (code "-" ∷ w) ≡ Minus (value 0 w)
unfolding word_of same number_of
minus-numeral [] h p = unfold is_numeral in absurd (false≢true h)
minus-numeral (b ∷ bs) h p = simp (h, ne_eqb (value 0 (b ∷ bs)) 0 (omega arith))

-- the word that a written number is
pub plain_word : (n : ℕ) → word_of (decimal n) ≡ Plain n
plain_word n = numeral-word (decimal n) (decimal-numeral n) ∙ ap Plain (decimal-value n)

pub minus-word : (n : ℕ) → 0 < n → word_of (code "-" ∷ decimal n) ≡ Minus n
minus-word n h = minus-numeral (decimal n) (decimal-numeral n) (rw (decimal-value n) h) ∙ ap Minus (decimal-value n)
