-- The new prefix of step 7: without the universal, and with the copies at the right end.
-- Assumes nothing.
use Prim.Native.Nat.{ℕ, ◌≤◌}
use mathlib.Core.Path.{◌≡◌, refl, sym, ap, ◌∙◌}
use mathlib.Core.Bool.{Bool, true, false, not, cond}
use mathlib.Core.List.{List, [], ◌∷◌, ◌++◌, map, append_assoc}
use lib.Dec.{eqb, ltb}
use lib.ListN.{length, drop, length-append, length-drop}
use native.Mathlib.Omega.{arith}
use Rattle.meaning.specs.Lists.{all_of, keep_if, has}
use Rattle.meaning.specs.Formula.{var, odd, plain, is_var, mentions, drop_var, right_of}
use Rattle.meaning.specs.WellFormed.{good_prefix}
use Rattle.rules.specs.Eliminate.{all_exist, universals_first, inner, fresh}
use Rattle.permits.specs.Places.{place_of}
use Rattle.permits.specs.Variables.{existentials}
use Rattle.meaning.proofs.Basics.{by_cases, clash, false_of, and_l, and_r, not-true, eqb-self}
use Rattle.meaning.proofs.Lists.{any-has, any-keep-le, all-has, all-of-has, keep_all}
use Rattle.meaning.proofs.Literals.{var-of-plain}
use Rattle.meaning.proofs.Prefix.{drop-none}
use Rattle.rules.proofs.Good.{good-drop, good-append}
use Rattle.rules.proofs.Fresh.{once, fresh-once, fresh-out, fresh-above}
use Rattle.rules.proofs.Rename.{copies-mention}
use Rattle.rules.proofs.Place.{place, while}
use Rattle.permits.proofs.PlaceLaws.{place-right}
use Rattle.rebuilds.proofs.PrefixLaws.{length-keep}

-- It is good --------------------------------------------------------------------------------------------------------
good-copies : (fs : List ℕ) → once fs ≡ true → all_of (λ v. ltb 0 v) fs ≡ true → good_prefix (map plain fs) ≡ true
unfolding good_prefix once all_of
good-copies [] o z = refl
good-copies (f ∷ fs) o z =
    rw (var-of-plain f, copies-mention fs f, and_l (ltb 0 f) (all_of (λ v. ltb 0 v) fs) z, and_l (not (has f fs)) (once fs) o)
    (good-copies fs (and_r (not (has f fs)) (once fs) o) (and_r (ltb 0 f) (all_of (λ v. ltb 0 v) fs) z))

-- a variable of the prefix is no copy
pub no_copy : (p : List ℕ) (n w : ℕ) → mentions p w ≡ true → has w (fresh p n) ≡ false
no_copy p n w m =
    false_of (has w (fresh p n)) (λ h. clash m (not-true (mentions p w) (all-has (λ v. not (mentions p v)) (fresh p n) w (fresh-out p n) h)))

pub good_new : (p : List ℕ) (a n : ℕ) → good_prefix p ≡ true → good_prefix (drop_var a p ++ map plain (fresh p n)) ≡ true
good_new p a n g =
    good-append (drop_var a p) (map plain (fresh p n)) (good-drop a p g) (good-copies (fresh p n) (fresh-once p n) (fresh-above p n))
    (all-of-has (λ q. not (mentions (map plain (fresh p n)) (var q))) (drop_var a p) (λ q h. ap not (out q (kept q h))))
  where
    kept : (q : ℕ) → has q (drop_var a p) ≡ true → has q p ≡ true
    kept q h = unfold has drop_var in any-keep-le (λ x. eqb q x) (λ x. not (is_var a x)) p h

    out : (q : ℕ) → has q p ≡ true → mentions (map plain (fresh p n)) (var q) ≡ false
    out q h =
        copies-mention (fresh p n) (var q)
        ∙ no_copy p n (var q) (unfold mentions is_var in any-has (λ x. eqb (var x) (var q)) p q h (eqb-self (var q)))

-- Its parts -----------------------------------------------------------------------------------------------------------
-- universals, then existentials
universals-then : (s : List ℕ) → universals_first s ≡ true → s ≡ while odd s ++ keep_if (λ q. not (odd q)) s
unfolding universals_first all_exist keep_if while
universals-then [] h = refl
universals-then (q ∷ s) h = go (odd q) h (universals-then s)
  where
    go : (b : Bool) → cond b (universals_first s) (all_of (λ x. not (odd x)) s) ≡ true
        → (universals_first s ≡ true → s ≡ while odd s ++ keep_if (λ x. not (odd x)) s)
        → (q ∷ s) ≡ cond b (q ∷ while odd s) [] ++ cond (not b) (q ∷ keep_if (λ x. not (odd x)) s) (keep_if (λ x. not (odd x)) s)
    go true k ih = ap (λ (r : List ℕ). q ∷ r) (ih k)
    go false k ih = ap (λ (r : List ℕ). q ∷ r) (sym (keep_all (λ x. not (odd x)) s k))

-- without u, the inner existentials stand at the right end
pub record Split (p : List ℕ) (a : ℕ) : Type 0 where
  pub left : List ℕ
  pub whole : drop_var a p ≡ left ++ inner a p

pub split-of : (p : List ℕ) (a : ℕ) → good_prefix p ≡ true → mentions p a ≡ true → universals_first (right_of a p) ≡ true → Split p a
unfolding inner
split-of p a g m h =
    let k = place p a g m in
    record {
      left = k.left ++ while odd k.right;
      whole = k.rest ∙ ap (λ (r : List ℕ). k.left ++ r) (universals-then k.right (rw k.behind at h)) ∙ rw (k.behind, append_assoc);
    }

-- How many there are ------------------------------------------------------------------------------------------------------
pub inner-many : (p : List ℕ) (a m n : ℕ) → mentions p a ≡ true → m ≡ place_of p a → n ≡ existentials (drop m p) → n ≡ length (inner a p)
unfolding inner existentials
inner-many p a m n k e d = d ∙ rw (e, place-right p a k)

pub inner-few : (p : List ℕ) (a m n : ℕ) → good_prefix p ≡ true → m ≡ place_of p a → n ≡ existentials (drop m p) → n ≤ length (drop_var a p)
unfolding existentials
inner-few p a m n g e d =
    by_cases (mentions p a)
    (λ h. let k = place p a g h in
    rw (d, e, place-right p a h, k.behind, k.rest) (omega (arith, length-keep (λ q. not (odd q)) k.right, length-append k.left k.right)))
    (λ h. rw (d, drop-none a p h) (omega (arith, length-keep (λ q. not (odd q)) (drop m p), length-drop m p)))
