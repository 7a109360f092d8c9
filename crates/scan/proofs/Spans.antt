-- Laws of blanks, of counts of bytes and of the comments before the first token, for the scanner's loops.
-- Assumes nothing.
use mathlib.Core.Path.{◌≡◌, ap, sym, ◌∙◌}
use mathlib.Core.Bool.{Bool, true, false, not, beq}
use mathlib.Core.Logic.{◌⊎◌, ⊎_elim}
use mathlib.Core.List.{List}
use Prim.Native.Nat.{ℕ, suc, ◌+◌, ◌≤◌, ◌<◌, max}
use Prim.Native.Char.{code}
use native.Mathlib.Numerals.{add-one}
use native.Mathlib.Omega.{arith}
use borrow.Author.Tests.{ne_eqb, eq-eqb, eqb-true, eqb-false, ltb-true, ltb-false}
use lib.Dec.{eqb, ltb}
use lib.ListN.{length, drop, get_or, drop_of_length-le}
use lib.Seq.{drop-cons}
use Rattle.qdimacs.specs.Bytes.{is_blank, is_solid, span, preamble}
use Rattle.scan.specs.Scan.{passes}
use Rattle.meaning.proofs.Basics.{by_cases}

-- Blanks -----------------------------------------------------------------------------------------------------
pub not-blank : (b : ℕ) → (b ≡ code " " → ⊥) → (b ≡ code "\t" → ⊥) → (b ≡ code "\r" → ⊥) → (b ≡ code "\n" → ⊥) → is_blank b ≡ false
unfolding is_blank
not-blank b p q r s = simp (ne_eqb b (code " ") p, ne_eqb b (code "\t") q, ne_eqb b (code "\r") r, ne_eqb b (code "\n") s)

pub cr-or-space : (b : ℕ) → (b ≡ code "\r") ⊎ (b ≡ code " ") → is_blank b ≡ true
unfolding is_blank
cr-or-space b h = ⊎_elim (λ e. rw e) (λ e. rw e) h

pub tab-or-lf : (b : ℕ) → code "\t" ≤ b → b < 11 → is_blank b ≡ true
unfolding is_blank
tab-or-lf b l h = by_cases (eqb b (code "\t")) (λ e. rw (eqb-true b (code "\t") e)) (λ e. let n = eqb-false b (code "\t") e in let z : b ≡ code "\n" = omega arith in rw z)

pub solid-is : (b : ℕ) (x : Bool) → is_blank b ≡ x → is_solid b ≡ not x
unfolding is_solid
solid-is b x e = ap not e

-- a byte that is passed, and one that is not
pub pass-yes : (k : Bool) (b : ℕ) (r : Bool) → r ≡ is_blank b → not (beq r k) ≡ false → passes k b ≡ true
pass-yes true b true e h = sym e
pass-yes true b false e h = sym e ∙ sym h
pass-yes false b true e h = solid-is b true (sym e) ∙ sym h
pass-yes false b false e h = solid-is b false (sym e)

pub pass-no : (k : Bool) (b : ℕ) (r : Bool) → r ≡ is_blank b → not (beq r k) ≡ true → passes k b ≡ false
pass-no true b true e h = sym e ∙ sym h
pass-no true b false e h = sym e
pass-no false b true e h = solid-is b true (sym e)
pass-no false b false e h = solid-is b false (sym e) ∙ sym h

-- A loop that counts while a test holds: what is counted and what is left make the whole -----------------------
module _ (p : ℕ → Bool) (s : List ℕ) (i : ℕ) where
  pub span_more : i < length s → p (get_or s i 0) ≡ true → span p (drop i s) ≡ suc (span p (drop (suc i) s))
  unfolding span
  span_more h e = rw (drop-cons s i 0 h, e)

  module _ (n : ℕ) (inv : n ≡ i + span p (drop i s)) where
    pub span_left : i < length s → p (get_or s i 0) ≡ false → i ≡ n
    span_left h e = let z : span p (drop i s) ≡ 0 = unfold span in rw (drop-cons s i 0 h, e) in omega arith

    pub span-turn : i < length s → p (get_or s i 0) ≡ true → n ≡ (i + 1) + span p (drop (i + 1) s)
    span-turn h e = rw (add-one i) (omega (arith, span_more h e))

    pub span-over : length s ≤ i → i ≡ n
    span-over h = let z : span p (drop i s) ≡ 0 = unfold span in rw (drop_of_length-le s h) in omega arith

-- the end of the loop that began at `from`, which may be past the text
pub span-end : (p : ℕ → Bool) (s : List ℕ) (from i n : ℕ) → n ≡ from + span p (drop from s) → n ≡ i + span p (drop i s)
    → length s ≤ i → (from ≤ length s → i ≤ length s) → max from (length s) ≡ n
span-end p s from i n a b h k =
    by_cases (ltb from (length s))
    (λ e. let z = ltb-true from (length s) e in omega (arith, span-over p s i n b h, k (omega arith)))
    (λ e. let z = ltb-false from (length s) e in omega (arith, span-over p s from n a z))

-- The same for the comments and blanks before the first token: f says whether a comment is running before a byte, and g after
module _ (s : List ℕ) (i n : ℕ) (f : Bool) (inv : n ≡ i + preamble f (drop i s)) where
  pub preamble-over : length s ≤ i → i ≡ n
  unfolding preamble
  preamble-over h = let z : preamble f (drop i s) ≡ 0 = rw (drop_of_length-le s h) in omega arith

  pub preamble-left : i < length s → f ≡ false → is_blank (get_or s i 0) ≡ false → (get_or s i 0 ≡ code "c" → ⊥) → i ≡ n
  unfolding preamble
  preamble-left h p e k =
      let z : preamble f (drop i s) ≡ 0 = rw (p, drop-cons s i 0 h, e, ne_eqb (get_or s i 0) (code "c") k) in omega arith

  module _ (g : Bool) (h : i < length s) where
    preamble-turn : preamble f (drop i s) ≡ suc (preamble g (drop (suc i) s)) → n ≡ (i + 1) + preamble g (drop (i + 1) s)
    preamble-turn z = rw (add-one i) (omega arith)

    pub preamble-blank : f ≡ false → g ≡ f → is_blank (get_or s i 0) ≡ true → n ≡ (i + 1) + preamble g (drop (i + 1) s)
    unfolding preamble
    preamble-blank p q e = preamble-turn (rw (q, p, drop-cons s i 0 h, e))

    pub preamble-comment : f ≡ false → g ≡ true → is_blank (get_or s i 0) ≡ false → get_or s i 0 ≡ code "c" → n ≡ (i + 1) + preamble g (drop (i + 1) s)
    unfolding preamble
    preamble-comment p q b e = preamble-turn (rw (q, p, drop-cons s i 0 h, b, eq-eqb (get_or s i 0) (code "c") e))

    pub preamble-inside : f ≡ true → g ≡ not (eqb (get_or s i 0) (code "\n")) → n ≡ (i + 1) + preamble g (drop (i + 1) s)
    unfolding preamble
    preamble-inside p q = preamble-turn (rw (q, p, drop-cons s i 0 h))
