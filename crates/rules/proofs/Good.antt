-- Parts of a good prefix are good, and so are two that share no variable. Assumes nothing.
use mathlib.Core.Path.{◌≡◌, refl, ◌∙◌, ap, ap₂}
use Prim.Native.Nat.{ℕ}
use mathlib.Core.Bool.{Bool, true, false, ◌||◌, not}
use mathlib.Core.List.{List, [], ◌∷◌, ◌++◌}
use lib.Dec.{ltb}
use Rattle.meaning.specs.Lists.{all_of, keep_if}
use Rattle.meaning.specs.Formula.{var, mentions, drop_var}
use Rattle.meaning.specs.WellFormed.{good_prefix}
use Rattle.meaning.proofs.Basics.{by_cases, clash, false_of, and_l, and_r, and_i, not-true}
use Rattle.meaning.proofs.Lists.{any_append, any-keep-le}
use Rattle.meaning.proofs.Prefix.{good-out, good-tail}

pub good-keep : (t : ℕ → Bool) (p : List ℕ) → good_prefix p ≡ true → good_prefix (keep_if t p) ≡ true
unfolding good_prefix keep_if mentions
good-keep t [] h = refl
good-keep t (q ∷ p) h =
    by_cases (t q)
    (λ e. rw e (and_i (ltb 0 (var q)) _ (search and_l) (and_i _ _ (ap not out) (good-keep t p (good-tail q p h)))))
    (λ e. rw e (good-keep t p (good-tail q p h)))
  where
    out : mentions (keep_if t p) (var q) ≡ false
    out = false_of _ (λ k. clash (any-keep-le _ t p k) (good-out q p h))

pub good-drop : (v : ℕ) (p : List ℕ) → good_prefix p ≡ true → good_prefix (drop_var v p) ≡ true
unfolding drop_var
good-drop v p h = good-keep _ p h

pub good_right : (l r : List ℕ) → good_prefix (l ++ r) ≡ true → good_prefix r ≡ true
good_right [] r h = h
good_right (q ∷ l) r h = good_right l r (good-tail q (l ++ r) h)

pub good-append : (x y : List ℕ) → good_prefix x ≡ true → good_prefix y ≡ true → all_of (λ q. not (mentions y (var q))) x ≡ true → good_prefix (x ++ y) ≡ true
unfolding good_prefix all_of
good-append [] y gx gy d = gy
good-append (q ∷ x) y gx gy d =
    and_i (ltb 0 (var q)) _ (search and_l) (and_i _ _ (ap not (apart (good-out q x gx) (search (and_l, not-true)))) (good-append x y (good-tail q x gx) gy (search and_r)))
  where
    apart : mentions x (var q) ≡ false → mentions y (var q) ≡ false → mentions (x ++ y) (var q) ≡ false
    apart h k = unfold mentions in (any_append _ x y ∙ ap₂ ◌||◌ h k)
