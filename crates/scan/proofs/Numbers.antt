-- Laws of digits, numerals and words, for the code that reads them.
-- Assumes nothing.
use mathlib.Core.Path.{◌≡◌, refl, sym, ap, ◌∙◌}
use mathlib.Core.Bool.{Bool, true, false, not, cond, ◌&&◌, and-false, and-true, or-true}
use mathlib.Core.Logic.{◌⊎◌, ⊎_elim}
use mathlib.Core.List.{List, [], ◌∷◌}
use Prim.Native.Nat.{ℕ, suc, ◌+◌, ◌-◌, ◌*◌, ◌≤◌, ◌<◌}
use Prim.Native.Char.{code}
use native.Mathlib.Numerals.{add-one}
use native.Mathlib.Omega.{arith}
use borrow.Author.Tests.{eq-eqb, ne_eqb, le-leb, lt-leb}
use lib.Dec.{leb, eqb}
use lib.ListN.{length, take, drop, get_or, drop_of_length-le, length-drop}
use lib.Seq.{drop-cons, take_all}
use Rattle.std.specs.Cmp.Lexicographic.{pointwise}
use Rattle.meaning.specs.Lists.{all_of, same}
use Rattle.meaning.proofs.StdLists.{same-std}
use Rattle.qdimacs.specs.Bytes.{is_digit, value, is_numeral}
use Rattle.qdimacs.specs.Words.{number_of, letter_of, word_of}
use Rattle.qdimacs.specs.declared.Word.TheVariants.{Cnf, Plain, Minus, Other}
use Rattle.scan.specs.Cut.{most, sat, sat_word, digits_in, numeral_in}
use Rattle.std.specs.Prelude.{Some, None}

-- Digits -----------------------------------------------------------------------------------------------------
pub digit-is : (b : ℕ) → code "0" ≤ b → b ≤ code "9" → is_digit b ≡ true
unfolding is_digit
digit-is b h k = rw (le-leb (code "0") b h, le-leb b (code "9") k)

pub digit_low : (b : ℕ) → b < code "0" → is_digit b ≡ false
unfolding is_digit
digit_low b h = rw (lt-leb (code "0") b h)

pub digit-high : (b : ℕ) → code "9" < b → is_digit b ≡ false
unfolding is_digit
digit-high b h = rw (lt-leb b (code "9") h) (and-false (leb (code "0") b))

-- the value depends on what stood before only up to the cut
sat-value : (w : List ℕ) (m n : ℕ) → sat m ≡ sat n → sat (value m w) ≡ sat (value n w)
unfolding value
sat-value [] m n e = e
sat-value (b ∷ w) m n e = sat-value w (m * 10 + (b - code "0")) (n * 10 + (b - code "0")) (omega arith)

-- the loop over digits: i are passed, and v is what they gave
pub record Digits (w : List ℕ) (i v : ℕ) : Type 0 where
  pub small : v ≤ most
  pub same-value : sat (value 0 w) ≡ sat (value v (drop i w))
  pub same-all : all_of is_digit w ≡ all_of is_digit (drop i w)

module _ (w : List ℕ) (i v : ℕ) (inv : Digits w i v) where
  pub digits-left : i < length w → is_digit (get_or w i 0) ≡ false → None ≡ digits_in w
  unfolding all_of digits_in
  digits-left h e = let z : all_of is_digit w ≡ false = inv.same-all ∙ rw (drop-cons w i 0 h, e) in rw z

  pub digits-over : length w ≤ i → Some v ≡ digits_in w
  unfolding all_of value digits_in
  digits-over h =
      let z : all_of is_digit w ≡ true = inv.same-all ∙ rw (drop_of_length-le w h) in
      let y : sat (value 0 w) ≡ sat v = inv.same-value ∙ rw (drop_of_length-le w h) in
      let x : sat (value 0 w) ≡ v = omega arith in
      rw (z, x)

  pub digits-turn : (u : ℕ) → i < length w → is_digit (get_or w i 0) ≡ true → u ≡ sat (value v (get_or w i 0 ∷ [])) → Digits w (i + 1) u
  unfolding all_of value
  digits-turn u h e q =
      record {
        small = omega arith;
        same-value = inv.same-value ∙ rw (drop-cons w i 0 h, add-one i) (sat-value (drop (suc i) w) (v * 10 + (get_or w i 0 - code "0")) u (omega arith));
        same-all = inv.same-all ∙ rw (drop-cons w i 0 h, e, add-one i);
      }

-- Numerals ---------------------------------------------------------------------------------------------------
pub numeral-empty : (w : List ℕ) → length w ≡ 0 → None ≡ numeral_in w
unfolding numeral_in is_numeral
numeral-empty [] h = refl
numeral-empty (b ∷ bs) h = absurd (omega arith)

pub numeral-zero : (w : List ℕ) → 1 < length w → get_or w 0 0 ≡ code "0" → None ≡ numeral_in w
unfolding numeral_in is_numeral
numeral-zero [] h e = absurd (omega arith)
numeral-zero (b ∷ bs) h e =
    let z : is_numeral (b ∷ bs) ≡ false = rw (eq-eqb b (code "0") e, ne_eqb (length bs) 0 (omega arith)) (and-false (all_of is_digit (b ∷ bs))) in rw z

pub numeral-digits : (w : List ℕ) → (length w ≡ 0 → ⊥) → (length w ≤ 1) ⊎ (get_or w 0 0 ≡ code "0" → ⊥) → digits_in w ≡ numeral_in w
unfolding numeral_in digits_in is_numeral
numeral-digits [] n h = absurd (n refl)
numeral-digits (b ∷ bs) n h =
    let z : is_numeral (b ∷ bs) ≡ all_of is_digit (b ∷ bs) =
    ⊎_elim (λ k. rw (eq-eqb (length bs) 0 (omega arith), or-true, and-true)) (λ k. rw (ne_eqb b (code "0") k, and-true)) h in
    rw z

-- what an answer of `read_numeral` tells
value-inv : (t : Bool) (x v : ℕ) → Some v ≡ cond t (Some x) None → (t ≡ true) × (v ≡ x)
value-inv true x v e = (refl, cc)
value-inv false x v e = absurd (let z : ◌≡◌ {A = ℕ} 0 1 = cc in omega arith)

not-inv : (t : Bool) (x : ℕ) → None ≡ cond t (Some x) None → t ≡ false
not-inv true x e = absurd (let z : ◌≡◌ {A = ℕ} 0 1 = cc in omega arith)
not-inv false x e = refl

numeral-value : (w : List ℕ) (v : ℕ) → Some v ≡ numeral_in w → (is_numeral w ≡ true) × (v ≡ sat (value 0 w))
unfolding numeral_in
numeral-value w v e = value-inv (is_numeral w) (sat (value 0 w)) v e

numeral-not : (w : List ℕ) → None ≡ numeral_in w → is_numeral w ≡ false
unfolding numeral_in
numeral-not w e = not-inv (is_numeral w) (sat (value 0 w)) e

-- Numbers ----------------------------------------------------------------------------------------------------
pub number-empty : (w : List ℕ) → length w ≡ 0 → Other ≡ sat_word (number_of w)
unfolding number_of sat_word
number-empty [] h = refl
number-empty (b ∷ bs) h = absurd (omega arith)

minus_is : (w : List ℕ) → (length w ≡ 0 → ⊥) → get_or w 0 0 ≡ code "-"
    → number_of w ≡ cond (is_numeral (drop 1 w) && not (eqb (value 0 (drop 1 w)) 0)) (Minus (value 0 (drop 1 w))) Other
unfolding number_of
minus_is [] n e = absurd (n refl)
minus_is (b ∷ bs) n e = rw (eq-eqb b (code "-") e)

plain-is : (w : List ℕ) → (length w ≡ 0 → ⊥) → (get_or w 0 0 ≡ code "-" → ⊥) → number_of w ≡ cond (is_numeral w) (Plain (value 0 w)) Other
unfolding number_of
plain-is [] n e = absurd (n refl)
plain-is (b ∷ bs) n e = rw (ne_eqb b (code "-") e)

-- the part `&word[1..]`
tail-part : (w : List ℕ) → take (length w - 1) (drop 1 w) ≡ drop 1 w
tail-part w = take_all (length w - 1) (drop 1 w) (omega (arith, length-drop 1 w))

-- after a minus: what is read of the part after it
module _ (w : List ℕ) (some_byte : length w ≡ 0 → ⊥) (first : get_or w 0 0 ≡ code "-") where
  pub minus-zero : (v : ℕ) → Some v ≡ numeral_in (take (length w - 1) (drop 1 w)) → v ≡ 0 → Other ≡ sat_word (number_of w)
  unfolding sat_word
  minus-zero v e z =
      let k = numeral-value (drop 1 w) v (e ∙ ap numeral_in (tail-part w)) in
      rw (minus_is w some_byte first, k.0, eq-eqb (value 0 (drop 1 w)) 0 (omega arith))

  pub minus-value : (v : ℕ) → Some v ≡ numeral_in (take (length w - 1) (drop 1 w)) → (v ≡ 0 → ⊥) → Minus v ≡ sat_word (number_of w)
  unfolding sat_word
  minus-value v e z =
      let k = numeral-value (drop 1 w) v (e ∙ ap numeral_in (tail-part w)) in
      rw (minus_is w some_byte first, k.0, ne_eqb (value 0 (drop 1 w)) 0 (omega arith)) (ap Minus k.1)

  pub minus-not : None ≡ numeral_in (take (length w - 1) (drop 1 w)) → Other ≡ sat_word (number_of w)
  unfolding sat_word
  minus-not e = rw (minus_is w some_byte first, numeral-not (drop 1 w) (e ∙ ap numeral_in (tail-part w)))

module _ (w : List ℕ) (some_byte : length w ≡ 0 → ⊥) (first : get_or w 0 0 ≡ code "-" → ⊥) where
  pub plain_value : (v : ℕ) → Some v ≡ numeral_in w → Plain v ≡ sat_word (number_of w)
  unfolding sat_word
  plain_value v e = let k = numeral-value w v e in rw (plain-is w some_byte first, k.0) (ap Plain k.1)

  pub plain-not : None ≡ numeral_in w → Other ≡ sat_word (number_of w)
  unfolding sat_word
  plain-not e = rw (plain-is w some_byte first, numeral-not w e)

-- Words ------------------------------------------------------------------------------------------------------
pub word-one : (w : List ℕ) → length w ≡ 1 → word_of w ≡ letter_of (get_or w 0 0)
unfolding word_of
word-one [] h = absurd (omega arith)
word-one (b ∷ []) h = refl
word-one (b ∷ c ∷ bs) h = absurd (omega arith)

-- the comparison with `cnf`, as the library's `==` answers it
pub cnf-test : (w : List ℕ) {cnf : List ℕ} {r : Bool} → r ≡ pointwise eqb w cnf → cnf ≡ code "c" ∷ code "n" ∷ code "f" ∷ []
    → same w (code "c" ∷ code "n" ∷ code "f" ∷ []) ≡ r
cnf-test w e k = same-std w (code "c" ∷ code "n" ∷ code "f" ∷ []) ∙ ap (pointwise eqb w) (sym k) ∙ sym e

pub word-cnf : (w : List ℕ) → same w (code "c" ∷ code "n" ∷ code "f" ∷ []) ≡ true → Cnf ≡ sat_word (word_of w)
unfolding word_of sat_word same
word-cnf [] e = absurd (let z : ◌≡◌ {A = Bool} true false = cc in cc)
word-cnf (b ∷ []) e = absurd (let z : ◌≡◌ {A = Bool} true false = sym e ∙ and-false (eqb b (code "c")) in cc)
word-cnf (b ∷ c ∷ bs) e = rw e

pub letter-other : (w : List ℕ) → length w ≡ 1 → (get_or w 0 0 ≡ code "p" → ⊥) → (get_or w 0 0 ≡ code "e" → ⊥) → (get_or w 0 0 ≡ code "a" → ⊥)
    → word_of w ≡ number_of w
unfolding word_of letter_of
letter-other [] h p e a = absurd (omega arith)
letter-other (b ∷ []) h p e a = rw (ne_eqb b (code "p") p, ne_eqb b (code "e") e, ne_eqb b (code "a") a)
letter-other (b ∷ c ∷ bs) h p e a = absurd (omega arith)

pub word-other : (w : List ℕ) → same w (code "c" ∷ code "n" ∷ code "f" ∷ []) ≡ false → (length w ≡ 1 → ⊥) → word_of w ≡ number_of w
unfolding word_of number_of
word-other [] e h = refl
word-other (b ∷ []) e h = absurd (h refl)
word-other (b ∷ c ∷ bs) e h = rw e
