-- A text whose words each stand before one blank: its tokens, and what they do to a state, word by word.
-- Assumes nothing.
use mathlib.Core.Path.{◌≡◌, refl, ap, ◌∙◌}
use mathlib.Core.Bool.{Bool, true, false, not, cond}
use mathlib.Core.List.{List, [], ◌∷◌, ◌++◌}
use Prim.Native.Nat.{ℕ, suc, ◌+◌, ◌<◌}
use Prim.Native.Char.{code}
use native.Mathlib.Nat.{add-zero, add-suc, suc-add}
use native.Mathlib.Omega.{arith}
use borrow.Author.Tests.{ne_eqb}
use lib.ListN.{length}
use lib.Seq.{take-append_seam}
use Rattle.meaning.specs.Lists.{all_of, same}
use Rattle.meaning.specs.Formula.{var, odd}
use Rattle.qdimacs.specs.Bytes.{is_blank, is_solid, is_digit, span, tokens_from}
use Rattle.qdimacs.specs.Words.{word_of, letter_of}
use Rattle.qdimacs.specs.Read.{State, Reading, reads, act, move_of, on_token, on_tokens}
use Rattle.qdimacs.specs.Write.{digits, decimal, letter, literal_text}
use Rattle.qdimacs.specs.declared.Word.{Word}
use Rattle.qdimacs.specs.declared.Word.TheVariants.{P, Cnf, E, A, Plain, Minus}
use Rattle.meaning.proofs.Basics.{by_cases, and_l, and_r}
use Rattle.meaning.proofs.Lists.{all-le}
use Rattle.qdimacs.proofs.Words.{digit-range, numeral-digits, decimal-numeral, plain_word, minus-word}

-- bytes that are the token of a word
pub record Spells (w : List ℕ) (x : Word) : Type 0 where
  pub some : 0 < length w
  pub solid : all_of is_solid w ≡ true
  pub is : word_of w ≡ x

-- Tokens -----------------------------------------------------------------------------------------------------
module _ (rest : List ℕ) (b : ℕ) (blank : is_blank b ≡ true) where
  ends : is_solid b ≡ false
  unfolding is_solid
  ends = ap not blank

  span-word : (w : List ℕ) → all_of is_solid w ≡ true → span is_solid (w ++ (b ∷ rest)) ≡ length w
  unfolding all_of span
  span-word [] h = rw ends
  span-word (x ∷ w) h = rw (and_l (is_solid x) (all_of is_solid w) h) (ap suc (span-word w (search and_r)))

  past_word : (w : List ℕ) (i : ℕ) → all_of is_solid w ≡ true → tokens_from true i (w ++ (b ∷ rest)) ≡ tokens_from false (suc (i + length w)) rest
  unfolding all_of tokens_from
  past_word [] i h = rw (add-zero i) (ap (λ (t : Bool). tokens_from t (suc i) rest) ends)
  past_word (x ∷ w) i h =
      ap (λ (t : Bool). tokens_from t (suc i) (w ++ (b ∷ rest))) (and_l (is_solid x) (all_of is_solid w) h) ∙
      rw (add-suc i (length w), ← suc-add i (length w)) (past_word w (suc i) (search and_r))

  -- a word and a blank
  word-token : (w : List ℕ) (i : ℕ) → 0 < length w → all_of is_solid w ≡ true
      → tokens_from false i (w ++ (b ∷ rest)) ≡ record { at = i; bytes = w } ∷ tokens_from false (suc (i + length w)) rest
  unfolding all_of tokens_from
  word-token [] i n h = absurd (omega arith)
  word-token (x ∷ w) i n h =
      rw (and_l (is_solid x) (all_of is_solid w) h, span-word w (search and_r), take-append_seam w (b ∷ rest), past_word w (suc i) (search and_r), add-suc i (length w), suc-add i (length w))

-- What a word does -------------------------------------------------------------------------------------------
-- the word leads from one state to another
pub record Takes (a : State) (x : Word) (b : State) : Type 0 where
  pub takes : (i : ℕ) → act a i (move_of a x) ≡ reads b

-- a text read from the one state on is its end read from the other on; the offsets do not matter
pub record Leads (a : State) (s : List ℕ) (b : State) (t : List ℕ) : Type 0 where
  pub leads : (i : ℕ) → (j : ℕ) × (on_tokens (reads a) (tokens_from false i s) ≡ on_tokens (reads b) (tokens_from false j t))

leads-word : {a b : State} {w : List ℕ} {x : Word} (c : ℕ) (rest : List ℕ) → is_blank c ≡ true → Spells w x → Takes a x b → Leads a (w ++ (c ∷ rest)) b rest
unfolding on_tokens on_token
leads-word {a} {b} {w} {x} c rest blank sp f =
    record {
      leads = λ i. (
        suc (i + length w),
        rw (word-token rest c blank w i sp.some sp.solid) (ap (λ (r : Reading). on_tokens r (tokens_from false (suc (i + length w)) rest)) (ap (λ (y : Word). act a i (move_of a y)) sp.is ∙ f.takes i)),
      );
    }

-- a word and a space; a word and an LF
pub spaced : {a b : State} {w : List ℕ} {x : Word} (rest : List ℕ) → Spells w x → Takes a x b → Leads a (w ++ (code " " ∷ rest)) b rest
spaced rest sp f = leads-word (code " ") rest (unfold is_blank in refl) sp f

pub ended : {a b : State} {w : List ℕ} {x : Word} (rest : List ℕ) → Spells w x → Takes a x b → Leads a (w ++ (code "\n" ∷ rest)) b rest
ended rest sp f = leads-word (code "\n") rest (unfold is_blank in refl) sp f

pub leads-on : {a b c : State} {s t u : List ℕ} → Leads a s b t → Leads b t c u → Leads a s c u
leads-on p q = record { leads = λ i. ((q.leads (p.leads i).0).0, (p.leads i).1 ∙ (q.leads (p.leads i).0).1) }

-- How words are spelled --------------------------------------------------------------------------------------
digit-solid : (b : ℕ) → is_digit b ≡ true → is_solid b ≡ true
unfolding is_solid is_blank
digit-solid b h =
    let r = digit-range b h in
    rw (ne_eqb b (code " ") (omega arith), ne_eqb b (code "\t") (omega arith), ne_eqb b (code "\r") (omega arith), ne_eqb b (code "\n") (omega arith))

decimal-solid : (n : ℕ) → (0 < length (decimal n)) × (all_of is_solid (decimal n) ≡ true)
decimal-solid n =
    let d = numeral-digits (decimal n) (decimal-numeral n) in
    (d.0, all-le is_digit is_solid (decimal n) digit-solid d.1)

pub spells-plain : (n : ℕ) → Spells (decimal n) (Plain n)
spells-plain n = let d = decimal-solid n in record { some = d.0; solid = d.1; is = plain_word n }

spells-minus : (n : ℕ) → 0 < n → Spells (code "-" ∷ decimal n) (Minus n)
spells-minus n h = record { some = omega arith; solid = unfold all_of is_solid is_blank in (decimal-solid n).1; is = minus-word n h }

pub spells-zero : Spells (code "0" ∷ []) (Plain 0)
unfolding digits decimal
spells-zero = spells-plain 0

pub spells-p : Spells (code "p" ∷ []) P
unfolding all_of is_solid is_blank word_of letter_of
spells-p = record { some = omega arith; solid = refl; is = refl }

pub spells-cnf : Spells (code "c" ∷ code "n" ∷ code "f" ∷ []) Cnf
unfolding all_of is_solid is_blank word_of same
spells-cnf = record { some = omega arith; solid = refl; is = refl }

-- the letter of a quantifier, and the text of a literal
unfoldable pub quantifier_word : ℕ → Word
quantifier_word e = cond (odd e) A E

unfoldable pub literal_word : ℕ → Word
literal_word l = cond (odd l) (Minus (var l)) (Plain (var l))

pub spells-letter : (e : ℕ) → Spells (letter e ∷ []) (quantifier_word e)
unfolding letter quantifier_word all_of is_solid is_blank word_of letter_of
spells-letter e = go (odd e)
  where
    go : (t : Bool) → Spells (cond t (code "a") (code "e") ∷ []) (cond t A E)
    go true = record { some = omega arith; solid = refl; is = refl }
    go false = record { some = omega arith; solid = refl; is = refl }

pub spells-literal : (l : ℕ) → 0 < var l → Spells (literal_text l) (literal_word l)
unfolding literal_text literal_word
spells-literal l h = by_cases (odd l) (λ e. rw e (spells-minus (var l) h)) (λ e. rw e (spells-plain (var l)))
