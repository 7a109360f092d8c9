-- The tokens of a text, one by one: the scanner's next token is the first of those that are left.
-- Assumes nothing.
use mathlib.Core.Path.{◌≡◌, refl, sym, ap, ◌∙◌}
use mathlib.Core.Bool.{Bool, true, false, not, cond}
use mathlib.Core.List.{List, [], ◌∷◌}
use Prim.Native.Nat.{ℕ, suc, ◌+◌, ◌-◌, ◌≤◌, ◌<◌}
use native.Mathlib.Nat.{add-zero, add-suc, suc-add}
use native.Mathlib.Omega.{arith}
use borrow.Author.Tests.{ltb-true, ltb-false}
use lib.Dec.{ltb, eqb}
use lib.ListN.{length, take, drop, get_or, drop_of_length-le, length-drop}
use lib.Seq.{drop-drop, get_or-drop}
use Rattle.qdimacs.specs.Bytes.{Token, is_blank, is_solid, span, tokens_from, preamble}
use Rattle.scan.specs.Scan.{token_start, token_end, next_in}
use Rattle.std.specs.Prelude.{Option, Some, None}
use Rattle.meaning.proofs.Basics.{by_cases}
use Rattle.scan.proofs.Spans.{solid-is, span_more}

-- past the blanks
tokens-blanks : (l : List ℕ) (i : ℕ) → tokens_from false i l ≡ tokens_from false (i + span is_blank l) (drop (span is_blank l) l)
unfolding tokens_from span is_solid
tokens-blanks [] i = refl
tokens-blanks (b ∷ bs) i =
    by_cases (is_blank b)
    (λ e. rw (e, add-suc i (span is_blank bs), ← suc-add i (span is_blank bs)) (tokens-blanks bs (suc i)))
    (λ e. rw (e, add-zero, e))

-- past the rest of a token that is running
tokens-solids : (l : List ℕ) (i : ℕ) → tokens_from true i l ≡ tokens_from false (i + span is_solid l) (drop (span is_solid l) l)
unfolding tokens_from span
tokens-solids [] i = refl
tokens-solids (b ∷ bs) i =
    by_cases (is_solid b)
    (λ e. rw (e, add-suc i (span is_solid bs), ← suc-add i (span is_solid bs)) (tokens-solids bs (suc i)))
    (λ e. rw (e, add-zero, e))

-- a token that starts here
token-here : (l : List ℕ) (i : ℕ) → 0 < length l → is_solid (get_or l 0 0) ≡ true
    → tokens_from false i l ≡ record { at = i; bytes = take (span is_solid l) l } ∷ tokens_from false (i + span is_solid l) (drop (span is_solid l) l)
unfolding tokens_from span
token-here [] i h e = absurd (omega arith)
token-here (b ∷ bs) i h e =
    rw (e, add-suc i (span is_solid bs), ← suc-add i (span is_solid bs))
    (ap {B = List Token} (λ r. record { at = i; bytes = b ∷ take (span is_solid bs) bs } ∷ r) (tokens-solids bs (suc i)))

-- what stands after those that are counted fails the test
span-next : (p : ℕ → Bool) (l : List ℕ) → span p l < length l → p (get_or l (span p l) 0) ≡ false
unfolding span
span-next p [] h = absurd (omega arith)
span-next p (b ∷ bs) h =
    by_cases (p b)
    (λ e. let z : span p (b ∷ bs) ≡ suc (span p bs) = rw e in rw e (span-next p bs (omega arith)))
    (λ e. rw (e, e))

pub span-le : (p : ℕ → Bool) (l : List ℕ) → span p l ≤ length l
unfolding span
span-le p [] = omega arith
span-le p (b ∷ bs) = by_cases (p b) (λ e. rw e (omega (arith, span-le p bs))) (λ e. rw e (omega arith))

pub preamble-le : (f : Bool) (l : List ℕ) → preamble f l ≤ length l
unfolding preamble
preamble-le f [] = omega arith
preamble-le true (b ∷ bs) = omega (arith, preamble-le (not (eqb b 10)) bs)
preamble-le false (b ∷ bs) =
    by_cases (is_blank b)
    (λ e. rw e (omega (arith, preamble-le false bs)))
    (λ e. by_cases (eqb b 99) (λ k. rw (e, k) (omega (arith, preamble-le true bs))) (λ k. rw (e, k) (omega arith)))

-- what an answer of the scanner tells
end-inv : (t : Bool) (a e : ℕ) → cond {A = Option (ℕ × ℕ)} t (Some (a, e)) None ≡ None → t ≡ false
end-inv true a e h = absurd (let z : ◌≡◌ {A = ℕ} 0 1 = cc in omega arith)
end-inv false a e h = refl

run-inv : (t : Bool) (a e x y : ℕ) → cond {A = Option (ℕ × ℕ)} t (Some (a, e)) None ≡ Some (x, y) → (t ≡ true) × (x ≡ a) × (y ≡ e)
run-inv true a e x y h = let z : ◌≡◌ {A = ℕ × ℕ} (x, y) (a, e) = cc in (refl, ap (λ (w : ℕ × ℕ). w.0) z, ap (λ (w : ℕ × ℕ). w.1) z)
run-inv false a e x y h = absurd (let z : ◌≡◌ {A = ℕ} 0 1 = cc in omega arith)

-- a token that is found: where it stands, and that it is the first of those that are left
pub record Found (s : List ℕ) (i a e : ℕ) : Type 0 where
  pub after : i ≤ a
  pub long : a < e
  pub within : e ≤ length s
  pub first : tokens_from false i (drop i s) ≡ record { at = a; bytes = take (e - a) (drop a s) } ∷ tokens_from false e (drop e s)

module _ (s : List ℕ) (i : ℕ) where
  pub none_left : next_in s i ≡ None → tokens_from false i (drop i s) ≡ []
  unfolding next_in token_start tokens_from
  none_left h =
      let l : length s ≤ token_start s i = ltb-false (token_start s i) (length s) (end-inv (ltb (token_start s i) (length s)) _ _ h) in
      tokens-blanks (drop i s) i ∙ rw (drop-drop (span is_blank (drop i s)) i s, drop_of_length-le s l)

  module _ (a e : ℕ) (p : a ≡ token_start s i) (q : e ≡ token_end s a) (h : a < length s) where
    start-solid : is_solid (get_or s a 0) ≡ true
    unfolding token_start
    start-solid =
        let k : span is_blank (drop i s) < length (drop i s) = simp length-drop (omega arith) in
        let z : is_blank (get_or (drop i s) (span is_blank (drop i s)) 0) ≡ false = span-next is_blank (drop i s) k in
        rw p (solid-is (get_or s (i + span is_blank (drop i s)) 0) false (rw (← (get_or-drop i s (span is_blank (drop i s)) 0)) z))

    found_at : Found s i a e
    unfolding token_start token_end
    found_at =
        let n : 0 < length (drop a s) = simp length-drop (omega arith) in
        let f : is_solid (get_or (drop a s) 0 0) ≡ true = rw (get_or-drop a s 0 0, add-zero a) start-solid in
        let g : e - a ≡ span is_solid (drop a s) = omega arith in
        record {
          after = omega arith;
          long = omega (arith, span_more is_solid s a h start-solid);
          within = omega (arith, span-le is_solid (drop a s), length-drop a s);
          first =
              tokens-blanks (drop i s) i ∙
              rw (drop-drop (span is_blank (drop i s)) i s, ← p, g, token-here (drop a s) a n f, drop-drop (span is_solid (drop a s)) a s, ← q);
        }

  pub found : (a e : ℕ) → next_in s i ≡ Some (a, e) → Found s i a e
  unfolding next_in
  found a e h =
      let k = run-inv (ltb (token_start s i) (length s)) (token_start s i) (token_end s (token_start s i)) a e h in
      let p : a ≡ token_start s i = k.1 in
      found_at a e p (k.2 ∙ ap (token_end s) (sym p)) (rw p (ltb-true (token_start s i) (length s) k.0))
