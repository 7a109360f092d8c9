-- Places in the new prefix of step 7: what stands left of the inner existentials es, then es, then their copies fs. Which clauses
-- reach behind the left part, and what becomes of a literal.
-- Assumes nothing.
use Prim.Native.Nat.{ℕ, suc, ◌+◌, ◌-◌, ◌*◌, ◌%◌}
use mathlib.Core.Path.{◌≡◌, refl, sym, ap, ◌∙◌}
use mathlib.Core.Bool.{Bool, true, false, ◌&&◌, ◌||◌, not, cond}
use mathlib.Core.List.{List, [], ◌∷◌, ◌++◌, map}
use lib.Dec.{ltb}
use lib.ListN.{length, get_or}
use lib.Seq.{drop-append_seam, get_or-append-add}
use borrow.Author.Tests.{le-ltb}
use native.Mathlib.Omega.{arith}
use native.Mathlib.Nat.{add-suc, suc-add, add-zero}
use Rattle.meaning.specs.Lists.{all_of, any_of, has}
use Rattle.meaning.specs.Formula.{var, odd, plain, negated, is_var, mentions, any_exist}
use Rattle.meaning.specs.WellFormed.{good_prefix}
use Rattle.rules.specs.Eliminate.{all_exist, rename_var, rename_lit}
use Rattle.permits.specs.Places.{place_from, place_of}
use Rattle.recipes.specs.Recipe.{reaches, copy_of, copied}
use Rattle.meaning.proofs.Basics.{by_cases, clash, iff, or_l, or_r, or-ir, or-false, not-true, eqb-ne}
use Rattle.meaning.proofs.Lists.{any_append, any-agree}
use Rattle.meaning.proofs.Literals.{odd_is, even_is, var-of-plain}
use Rattle.meaning.proofs.Prefix.{good-out, good-tail}
use Rattle.rules.proofs.Rename.{copies-mention, rename-out}
use Rattle.rules.proofs.Place.{meet}
use Rattle.permits.proofs.PlaceLaws.{behind}

-- Places ------------------------------------------------------------------------------------------------------------
place_none : (k : ℕ) (p : List ℕ) (w : ℕ) → mentions p w ≡ false → place_from k p w ≡ 0
unfolding place_from mentions any_of
place_none k [] w h = refl
place_none k (q ∷ p) w h = rw (or_l (is_var w q) (mentions p w) h) (place_none (suc k) p w (or_r (is_var w q) (mentions p w) h))

-- the place of a variable that does not stand in the left part
place-past : (k : ℕ) (l r : List ℕ) (w : ℕ) → mentions l w ≡ false → place_from k (l ++ r) w ≡ place_from (k + length l) r w
unfolding place_from mentions any_of
place-past k [] r w h = ap (λ (j : ℕ). place_from j r w) (sym (add-zero k))
place-past k (q ∷ l) r w h =
    rw (or_l (is_var w q) (mentions l w) h)
    (place-past (suc k) l r w (or_r (is_var w q) (mentions l w) h)
    ∙ ap (λ (j : ℕ). place_from j r w) (suc-add k (length l) ∙ sym (add-suc k (length l))))

mentions-append : (l r : List ℕ) (w : ℕ) → mentions (l ++ r) w ≡ (mentions l w || mentions r w)
unfolding mentions
mentions-append l r w = any_append (is_var w) l r

-- in a good prefix what stands in the right part does not stand in the left one
left_out : (l r : List ℕ) (w : ℕ) → good_prefix (l ++ r) ≡ true → mentions r w ≡ true → mentions l w ≡ false
unfolding mentions any_of is_var
left_out [] r w g m = refl
left_out (q ∷ l) r w g m =
    rw (eqb-ne (var q) w (λ e. clash (mentions-append l r w ∙ or-ir (mentions l w) (mentions r w) m) (rw e at (good-out q (l ++ r) g))))
    (left_out l r w (good-tail q (l ++ r) g) m)

-- the i-th of the existentials, with k places before them, has the i-th copy
record Copied (at k : ℕ) (fs : List ℕ) (copy : ℕ) : Type 0 where
  i : ℕ
  place : at ≡ k + i
  entry : get_or (map plain fs) i 0 ≡ plain copy

copy_at : (k : ℕ) (es fs r : List ℕ) (w : ℕ) → length fs ≡ length es → mentions es w ≡ true → Copied (place_from k (es ++ r) w) k fs (rename_var es fs w)
unfolding place_from mentions any_of rename_var
copy_at k [] fs r w n m = clash m refl
copy_at k (e ∷ es) [] r w n m = absurd (let z : 0 ≡ suc (length es) = n in omega arith)
copy_at k (e ∷ es) (f ∷ fs) r w n m = go (is_var w e) m (λ h. copy_at (suc k) es fs r w (omega arith) h)
  where
    go : (b : Bool) → (b || mentions es w) ≡ true → (mentions es w ≡ true → Copied (place_from (suc k) (es ++ r) w) (suc k) fs (rename_var es fs w))
        → Copied (cond b k (place_from (suc k) (es ++ r) w)) k (f ∷ fs) (cond b f (rename_var es fs w))
    go true h ih = record { i = 0; place = sym (add-zero k); entry = refl }
    go false h ih = let x = ih h in record { i = suc x.i; place = x.place ∙ suc-add k x.i ∙ sym (add-suc k x.i); entry = x.entry }

-- a renamed literal, by its variable and its phase
pub rename-is : (es fs : List ℕ) (l : ℕ) → rename_lit es fs l ≡ 2 * rename_var es fs (var l) + l % 2
unfolding rename_lit plain negated
rename-is es fs l =
    by_cases (odd l)
    (λ h. let o = odd_is l h in rw h (omega arith))
    (λ h. let o = even_is l h in rw h (omega arith))

literal-is : (l : ℕ) → l ≡ 2 * var l + l % 2
unfolding var
literal-is l = omega arith

-- Behind the left part ------------------------------------------------------------------------------------------------
module _ (left es fs : List ℕ) (good : good_prefix (left ++ (es ++ map plain fs)) ≡ true) where
  abbrev new : List ℕ
  new = left ++ (es ++ map plain fs)

  -- a variable that is no copy stands there exactly if it is one of the existentials
  behind-left : (w : ℕ) → has w fs ≡ false → ltb (length left) (place_of new w) ≡ mentions es w
  unfolding place_of
  behind-left w out =
      by_cases (mentions new w)
      (λ m.
      sym (behind (length left) new w good m)
      ∙ ap (λ (r : List ℕ). mentions r w) (drop-append_seam left (es ++ map plain fs))
      ∙ mentions-append es (map plain fs) w
      ∙ rw (copies-mention fs w, out) (or-false (mentions es w)))
      (λ m.
      let right : mentions (es ++ map plain fs) w ≡ false =
      or_r (mentions left w) (mentions (es ++ map plain fs) w) (sym (mentions-append left (es ++ map plain fs) w) ∙ m) in
      rw (place_none 1 new w m)
      (le-ltb (length left) 0 (omega arith)
      ∙ sym (or_l (mentions es w) (mentions (map plain fs) w) (sym (mentions-append es (map plain fs) w) ∙ right))))

  -- so a clause without copies reaches there exactly if it has one of the existentials
  pub reaches-is : (c : List ℕ) → all_exist es ≡ true → all_of (λ l. not (has (var l) fs)) c ≡ true → reaches new (length left) c ≡ any_exist es c
  unfolding reaches any_exist all_exist
  reaches-is c even out =
      any-agree (λ l. not (has (var l) fs)) (λ l. ltb (length left) (place_of new (var l))) (λ l. mentions es (var l)) c out
      (λ l h. behind-left (var l) (not-true (has (var l) fs) h))
      ∙ iff (any_of (λ l. mentions es (var l)) c) (any_of (λ q. mentions c (var q)) es) (meet c es) (meet es c)
      ∙ sym (any-agree (λ q. not (odd q)) (λ q. not (odd q) && mentions c (var q)) (λ q. mentions c (var q)) es even (λ q h. rw h))

  -- and a literal that is no copy is renamed
  module _ (n : ℕ) (many : n ≡ length es) (size : length fs ≡ length es) where
    copy_is : (l : ℕ) → mentions es (var l) ≡ true → copy_of new n l ≡ rename_lit es fs l
    unfolding copy_of place_of
    copy_is l m =
        let w = var l in
        let right : mentions (es ++ map plain fs) w ≡ true = mentions-append es (map plain fs) w ∙ rw m in
        let x = copy_at (1 + length left) es fs (map plain fs) w size m in
        let at : place_from 1 new w ≡ 1 + length left + x.i =
        place-past 1 left (es ++ map plain fs) w (left_out left (es ++ map plain fs) w good right) ∙ x.place in
        let i : place_from 1 new w - 1 + n ≡ length left + (length es + x.i) = omega arith in
        let e : get_or new (length left + (length es + x.i)) 0 ≡ plain (rename_var es fs w) =
        get_or-append-add left (es ++ map plain fs) (length es + x.i) 0 ∙ get_or-append-add es (map plain fs) x.i 0 ∙ x.entry in
        rw (i, e, var-of-plain (rename_var es fs w)) (sym (rename-is es fs l))

    pub copied_is : (l : ℕ) → has (var l) fs ≡ false → copied new (length left) n l ≡ rename_lit es fs l
    unfolding copied
    copied_is l out =
        rw (behind-left (var l) out)
        (by_cases (mentions es (var l))
        (λ m. rw m (copy_is l m))
        (λ m. rw m (literal-is l ∙ sym (rename-is es fs l ∙ ap (λ (v : ℕ). 2 * v + l % 2) (rename-out es fs (var l) m)))))
