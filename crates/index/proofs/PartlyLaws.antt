-- A clause put literal by literal: what each literal's list is on the way.
-- Assumes nothing.
use Prim.Native.Nat.{ℕ, ◌+◌, ◌≤◌, ◌<◌}
use mathlib.Core.Path.{◌≡◌, refl, sym, ap, ◌∙◌, fun_ext}
use mathlib.Core.Bool.{Bool, true, ◌||◌, cond}
use mathlib.Core.List.{List, [], ◌∷◌, ◌++◌, append-nil}
use lib.ListN.{length, get_or, take, drop, length-append, take-append-drop}
use lib.Seq.{take-suc, take_all, length-take-le}
use lib.Dec.{eqb}
use native.Mathlib.Omega.{arith}
use native.Mathlib.Nat.{le_of_lt, zero-add}
use native.Mathlib.Numerals.{add-one}
use Rattle.meaning.specs.Lists.{any_of, has}
use Rattle.meaning.specs.WellFormed.{ascends}
use Rattle.index.specs.Index.{clauses_from, clauses_with}
use Rattle.meaning.proofs.Basics.{by_cases, or-il, or-false, eqb-self, eqb-ne}
use Rattle.meaning.proofs.Lists.{any_append}
use Rattle.index.proofs.ClauseLaws.{from-append}
use Rattle.index.proofs.CountLaws.{ascends_front}

-- the list of k, when the clauses before clause i are put, and j literals of clause i
unfoldable pub partly : List (List ℕ) → ℕ → ℕ → ℕ → List ℕ
partly cs i j k = clauses_with (take i cs) k ++ cond (has k (take j (get_or cs i []))) (i ∷ []) []

pub partly-start : (cs : List (List ℕ)) (i : ℕ) → clauses_with (take i cs) ≡ partly cs i 0
unfolding partly has any_of
partly-start cs i = fun_ext (λ k. sym (append-nil (clauses_with (take i cs) k)))

has-front : (c : List ℕ) (j k : ℕ) → has k (take j c) ≡ true → has k c ≡ true
unfolding has
has-front c j k h =
    ap (λ (d : List ℕ). any_of (λ y. eqb k y) d) (sym (take-append-drop j c))
    ∙ any_append (λ y. eqb k y) (take j c) (drop j c)
    ∙ or-il (any_of (λ y. eqb k y) (take j c)) (any_of (λ y. eqb k y) (drop j c)) h

module _ (cs : List (List ℕ)) (i : ℕ) (there : i < length cs) where
  with-next : (k : ℕ) → clauses_with (take (i + 1) cs) k ≡ clauses_with (take i cs) k ++ cond (has k (get_or cs i [])) (i ∷ []) []
  unfolding clauses_with
  with-next k =
      ap (λ (ds : List (List ℕ)). clauses_from 0 ds k) (ap (λ (n : ℕ). take n cs) (add-one i) ∙ take-suc cs i [] there)
      ∙ from-append k 0 (take i cs) (get_or cs i [] ∷ [])
      ∙ ap (λ (n : ℕ). clauses_from 0 (take i cs) k ++ clauses_from n (get_or cs i [] ∷ []) k)
      (zero-add (length (take i cs)) ∙ length-take-le i cs (le_of_lt there))
      ∙ unfold clauses_from in refl

  pub partly-end : (j : ℕ) → length (get_or cs i []) ≤ j → partly cs i j ≡ clauses_with (take (i + 1) cs)
  unfolding partly
  partly-end j h = fun_ext (λ k. rw (take_all j (get_or cs i []) h) (sym (with-next k)))

  -- it is never longer than the whole list
  with-front : (n k : ℕ) → length (clauses_with (take n cs) k) ≤ length (clauses_with cs k)
  unfolding clauses_with
  with-front n k =
      let e : clauses_from 0 cs k ≡ clauses_from 0 (take n cs) k ++ clauses_from (0 + length (take n cs)) (drop n cs) k =
      ap (λ (ds : List (List ℕ)). clauses_from 0 ds k) (sym (take-append-drop n cs)) ∙ from-append k 0 (take n cs) (drop n cs) in
      omega (arith, simp length-append at (ap length e))

  pub partly-within : (j k : ℕ) → length (partly cs i j k) ≤ length (clauses_with cs k)
  unfolding partly
  partly-within j k =
      by_cases (has k (take j (get_or cs i [])))
      (λ t.
      let e : clauses_with (take (i + 1) cs) k ≡ clauses_with (take i cs) k ++ (i ∷ []) = with-next k ∙ rw (has-front (get_or cs i []) j k t) in
      rw t (omega (arith, ap length e, with-front (i + 1) k)))
      (λ t. rw t (omega (arith, length-append (clauses_with (take i cs) k) [], with-front i k)))

  module _ (rise : ascends (get_or cs i []) ≡ true) (j : ℕ) (more : j < length (get_or cs i [])) where
    abbrev pub x : ℕ
    x = get_or (get_or cs i []) j 0

    -- one literal more
    has-next : (k : ℕ) → has k (take (j + 1) (get_or cs i [])) ≡ (has k (take j (get_or cs i [])) || eqb k x)
    unfolding has any_of
    has-next k =
        ap (λ (d : List ℕ). has k d) (ap (λ (n : ℕ). take n (get_or cs i [])) (add-one j) ∙ take-suc (get_or cs i []) j 0 more)
        ∙ any_append (λ y. eqb k y) (take j (get_or cs i [])) (get_or (get_or cs i []) j 0 ∷ [])
        ∙ ap (λ (b : Bool). has k (take j (get_or cs i [])) || b) (or-false (eqb k (get_or (get_or cs i []) j 0)))

    pub partly_more : partly cs i (j + 1) x ≡ partly cs i j x ++ (i ∷ [])
    unfolding partly
    partly_more =
        let out = ascends_front (get_or cs i []) j rise more in
        rw (has-next x, out, eqb-self x) (ap (λ (r : List ℕ). r ++ (i ∷ [])) (sym (append-nil (clauses_with (take i cs) x))))

    pub partly-other : (k : ℕ) → (k ≡ x → ⊥) → partly cs i j k ≡ partly cs i (j + 1) k
    unfolding partly
    partly-other k d = rw (has-next k, eqb-ne k x d, or-false (has k (take j (get_or cs i []))))

    pub partly-free : length (partly cs i j x) < length (clauses_with cs x)
    partly-free = omega (arith, ap length partly_more ∙ length-append (partly cs i j x) (i ∷ []), partly-within (j + 1) x)
