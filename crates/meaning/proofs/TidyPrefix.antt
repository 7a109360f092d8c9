-- The prefix may change where a clause does not see it: a variable that the clause does not have leaves, or existentials come at the
-- right end. The clause is tidied as before.
-- Assumes nothing.
use Prim.Native.Nat.{ℕ, ◌+◌, ◌*◌}
use mathlib.Core.Path.{◌≡◌, refl, sym, ap, fun_ext, ◌∙◌}
use mathlib.Core.Bool.{Bool, true, false, ◌&&◌, ◌||◌, not, cond}
use mathlib.Core.List.{List, [], ◌∷◌, ◌++◌}
use lib.Dec.{eqb}
use Rattle.meaning.specs.Lists.{all_of, any_of, keep_if, has}
use Rattle.meaning.specs.Formula.{var, odd, is_var, mentions, drop_var, universal, right_of, any_exist}
use Rattle.meaning.specs.Tidy.{ascending, both_phases, stays, reduce, dropped, kept, tidy_sorted, tidy}
use Rattle.meaning.specs.WellFormed.{reduced}
use Rattle.meaning.proofs.Basics.{clash, and_l, and_r, or-il, or-ir, or_elim, or-false, eqb-true, eqb-false, eqb-ne, eqb-sym, not-true}
use Rattle.meaning.proofs.Lists.{any_append, any-keep, any_none, none_any, any-ascending, all-le, all-agree}
use Rattle.meaning.proofs.Prefix.{eqb-negated}

-- what passes f is of another variable, so to leave out v changes nothing
keep-any : (v : ℕ) (f : ℕ → Bool) (s : List ℕ) → ((q : ℕ) → is_var v q ≡ true → f q ≡ false) → any_of f (drop_var v s) ≡ any_of f s
unfolding drop_var
keep-any v f s h = any-keep f (λ q. not (is_var v q)) s ∙ ap (λ (g : ℕ → Bool). any_of g s) (fun_ext (λ q. go (is_var v q) (f q) (h q)))
  where
    go : (x y : Bool) → (x ≡ true → y ≡ false) → (not x && y) ≡ y
    go true y e = sym (e refl)
    go false y e = refl

drop-universal : (v w : ℕ) (p : List ℕ) → eqb v w ≡ false → universal (drop_var v p) w ≡ universal p w
unfolding universal has is_var
drop-universal v w p d =
    keep-any v (λ q. eqb (2 * w + 1) q) p
    (λ q e. eqb-negated w q ∙ ap (λ (b : Bool). b && odd q) (eqb-ne (var q) w (λ i. eqb-false v w d (sym (eqb-true (var q) v e) ∙ i))))

drop-exist : (v : ℕ) (s c : List ℕ) → mentions c v ≡ false → any_exist (drop_var v s) c ≡ any_exist s c
unfolding any_exist is_var
drop-exist v s c out =
    keep-any v (λ q. not (odd q) && mentions c (var q)) s
    (λ q e. ap (λ (w : ℕ). not (odd q) && mentions c w) (eqb-true (var q) v e) ∙ rw out (none (not (odd q))))
  where
    none : (b : Bool) → (b && false) ≡ false
    none true = refl
    none false = refl

right-drop : (v w : ℕ) (p : List ℕ) → eqb v w ≡ false → right_of w (drop_var v p) ≡ drop_var v (right_of w p)
unfolding right_of drop_var keep_if is_var
right-drop v w [] d = refl
right-drop v w (q ∷ p) d = go (eqb (var q) v) (eqb (var q) w) refl refl (right-drop v w p d)
  where
    go : (x y : Bool) → eqb (var q) v ≡ x → eqb (var q) w ≡ y → right_of w (drop_var v p) ≡ drop_var v (right_of w p)
        → right_of w (cond (not x) (q ∷ drop_var v p) (drop_var v p)) ≡ drop_var v (cond y p (right_of w p))
    go true true e i ih = clash {b = eqb v w} (rw (← eqb-true (var q) v e) i) d
    go true false e i ih = ih
    go false true e i ih = rw i
    go false false e i ih = rw i ih

-- two tests that agree wherever a third passes select the same
pub keep-agree : {A : Type 0} (t f g : A → Bool) (c : List A) → all_of t c ≡ true → ((x : A) → t x ≡ true → f x ≡ g x) → keep_if f c ≡ keep_if g c
unfolding keep_if all_of
keep-agree t f g [] k h = refl
keep-agree t f g (x ∷ c) k h = rw (h x (and_l (t x) (all_of t c) k), keep-agree t f g c (and_r (t x) (all_of t c) k) h)

module _ (v : ℕ) (p c : List ℕ) (out : mentions c v ≡ false) where
  stays-drop : (l : ℕ) → not (is_var v l) ≡ true → stays (drop_var v p) c l ≡ stays p c l
  unfolding stays is_var
  stays-drop l n =
      let d : eqb v (var l) ≡ false = eqb-sym v (var l) ∙ not-true (eqb (var l) v) n in
      rw (drop-universal v (var l) p d, right-drop v (var l) p d, drop-exist v (right_of (var l) p) c out)

  others : all_of (λ l. not (is_var v l)) c ≡ true
  unfolding mentions
  others = any_none (is_var v) c out

  pub reduced-drop : reduced (drop_var v p) c ≡ reduced p c
  unfolding reduced
  reduced-drop = all-agree (λ l. not (is_var v l)) (stays (drop_var v p) c) (stays p c) c others stays-drop

  pub reduce-drop : reduce (drop_var v p) c ≡ reduce p c
  unfolding reduce
  reduce-drop = keep-agree (λ l. not (is_var v l)) (stays (drop_var v p) c) (stays p c) c others stays-drop

pub tidy-drop : (v : ℕ) (p raw : List ℕ) → mentions raw v ≡ false → tidy (drop_var v p) raw ≡ tidy p raw
unfolding tidy tidy_sorted mentions
tidy-drop v p raw out =
    ap (λ (c : List ℕ). cond (both_phases (ascending raw)) dropped (kept c)) (reduce-drop v p (ascending raw) (any-ascending (is_var v) raw ∙ out))

-- Existentials at the right end --------------------------------------------------------------------------------------
module _ (p more : List ℕ) (exist : all_of (λ e. not (odd e)) more ≡ true) where
  -- no universal comes
  universal-more : (w : ℕ) → universal (p ++ more) w ≡ universal p w
  unfolding universal has
  universal-more w =
      any_append (λ q. eqb (2 * w + 1) q) p more
      ∙ ap (λ (b : Bool). any_of (λ q. eqb (2 * w + 1) q) p || b) (none_any (λ q. eqb (2 * w + 1) q) more (all-le (λ e. not (odd e)) (λ e. not (eqb (2 * w + 1) e)) more other exist))
      ∙ or-false (any_of (λ q. eqb (2 * w + 1) q) p)
    where
      none : (b : Bool) → not (b && false) ≡ true
      none true = refl
      none false = refl

      other : (e : ℕ) → not (odd e) ≡ true → not (eqb (2 * w + 1) e) ≡ true
      other e n = rw (eqb-negated w e, not-true (odd e) n) (none (eqb (var e) w))

  right-more : (w : ℕ) (s c : List ℕ) → any_exist (right_of w s) c ≡ true → any_exist (right_of w (s ++ more)) c ≡ true
  unfolding right_of any_exist any_of
  right-more w [] c h = clash h refl
  right-more w (q ∷ s) c h = go (is_var w q) h (right-more w s c)
    where
      go : (b : Bool) → any_exist (cond b s (right_of w s)) c ≡ true → (any_exist (right_of w s) c ≡ true → any_exist (right_of w (s ++ more)) c ≡ true)
          → any_exist (cond b (s ++ more) (right_of w (s ++ more))) c ≡ true
      go true e ih =
          unfold any_exist in
          (any_append (λ x. not (odd x) && mentions c (var x)) s more
          ∙ or-il (any_of (λ x. not (odd x) && mentions c (var x)) s) (any_of (λ x. not (odd x) && mentions c (var x)) more) (unfold any_exist in e))
      go false e ih = ih e

  pub reduced-more : (c : List ℕ) → reduced p c ≡ true → reduced (p ++ more) c ≡ true
  unfolding reduced
  reduced-more c h = all-le (stays p c) (stays (p ++ more) c) c stay h
    where
      stay : (l : ℕ) → stays p c l ≡ true → stays (p ++ more) c l ≡ true
      stay l e =
          unfold stays in
          or_elim (not (universal p (var l))) (any_exist (right_of (var l) p) c) (unfold stays in e)
          (λ n. or-il (not (universal (p ++ more) (var l))) (any_exist (right_of (var l) (p ++ more)) c) (ap not (universal-more (var l)) ∙ n))
          (λ r. or-ir (not (universal (p ++ more) (var l))) (any_exist (right_of (var l) (p ++ more)) c) (right-more (var l) p c r))
