-- Lists of which no two are related; clauses with the same literals; clauses in which each variable stands once.
-- Assumes nothing.
use mathlib.Core.Path.{◌≡◌, refl, sym, ◌∙◌, ap}
use Prim.Native.Nat.{ℕ, suc}
use mathlib.Core.Bool.{Bool, true, false, ◌&&◌, ◌||◌, not, cond, false≢true}
use mathlib.Core.List.{List, [], ◌∷◌, ◌++◌, map}
use native.Mathlib.Omega.{arith}
use lib.Dec.{eqb, ltb}
use lib.ListN.{length}
use borrow.Author.Tests.{ltb-true}
use Rattle.meaning.specs.Lists.{all_of, any_of, keep_if, has, part_of, same}
use Rattle.meaning.specs.Formula.{var, opposite, is_var, mentions}
use Rattle.meaning.specs.WellFormed.{ascends, literals, distinct}
use Rattle.meaning.specs.Tidy.{insert_new, ascending, both_phases}
use Rattle.meaning.proofs.Basics.{by_cases, clash, false_of, and_l, and_r, and_i, or_l, or_r, or_elim, not-true, eqb-true, eqb-ne, eqb-self}
use Rattle.meaning.proofs.Lists.{any-le, all-le, any-keep-le, any-map, any_append, all-has, all-of-has, any-has, any-witness, any-ascending, any_none, none_any, all-all, same-path}
use Rattle.meaning.proofs.Literals.{var-opp}
use Rattle.meaning.proofs.Ascends.{opp-differs}

-- No two related ---------------------------------------------------------------------------------------------------
module _ {A : Type 0} where
  -- no element is related to a later one
  unfoldable pub no_two : (A → A → Bool) → List A → Bool
  no_two r [] = true
  no_two r (x ∷ xs) = not (any_of (r x) xs) && no_two r xs

  pub no-two-keep : (r : A → A → Bool) (t : A → Bool) (xs : List A) → no_two r xs ≡ true → no_two r (keep_if t xs) ≡ true
  unfolding no_two keep_if
  no-two-keep r t [] h = refl
  no-two-keep r t (x ∷ xs) h =
      by_cases (t x)
      (λ e. rw e (and_i _ _
      (ap not (false_of _ (λ k. clash (any-keep-le (r x) t xs k) (search (and_l, not-true)))))
      (no-two-keep r t xs (search and_r))))
      (λ e. rw e (no-two-keep r t xs (search and_r)))

  pub no-two-append : (r : A → A → Bool) (xs ys : List A) → no_two r xs ≡ true → no_two r ys ≡ true
      → all_of (λ x. not (any_of (r x) ys)) xs ≡ true → no_two r (xs ++ ys) ≡ true
  unfolding no_two all_of
  no-two-append r [] ys h k d = k
  no-two-append r (x ∷ xs) ys h k d =
      and_i _ _ (ap not (any_append (r x) xs ys ∙ none)) (no-two-append r xs ys (search and_r) k (search and_r))
    where
      none : (any_of (r x) xs || any_of (r x) ys) ≡ false
      none =
          let a : any_of (r x) xs ≡ false = search (and_l, not-true) in
          let b : any_of (r x) ys ≡ false = search (and_l, not-true) in
          rw (a, b)

  pub no-two-le : (r s : A → A → Bool) → ((x y : A) → s x y ≡ true → r x y ≡ true) → (xs : List A) → no_two r xs ≡ true → no_two s xs ≡ true
  unfolding no_two
  no-two-le r s h [] k = refl
  no-two-le r s h (x ∷ xs) k =
      and_i _ _ (ap not (false_of _ (λ e. clash (any-le (s x) (r x) xs (h x) e) (search (and_l, not-true))))) (no-two-le r s h xs (search and_r))

  -- two parts that a test tells apart
  pub no-two-apart : (r : A → A → Bool) (t : A → Bool) → ((x y : A) → r x y ≡ true → t y ≡ true → t x ≡ true)
      → (xs ys : List A) → all_of (λ x. not (t x)) xs ≡ true → all_of t ys ≡ true → no_two r xs ≡ true → no_two r ys ≡ true → no_two r (xs ++ ys) ≡ true
  no-two-apart r t h xs ys a b m n =
      no-two-append r xs ys m n
      (all-le (λ x. not (t x)) _ xs
      (λ x e. ap not (none_any (r x) ys (all-le t _ ys (λ y i. ap not (false_of _ (λ k. clash (h x y k i) (not-true _ e)))) b))) a)

module _ {A B : Type 0} where
  -- a map that relates no more keeps that, on elements of which f holds
  module _ (r : A → A → Bool) (s : B → B → Bool) (g : A → B) (f : A → Bool)
      (h : (x y : A) → f x ≡ true → f y ≡ true → s (g x) (g y) ≡ true → r x y ≡ true) where
    no-later : (x : A) (xs : List A) → f x ≡ true → all_of f xs ≡ true → any_of (r x) xs ≡ false → any_of (s (g x)) (map g xs) ≡ false
    no-later x xs e a n =
        any-map (s (g x)) g xs ∙ none_any (λ y. s (g x) (g y)) xs
        (all-le (λ y. f y && not (r x y)) _ xs (λ y b. ap not (false_of _ (λ i. clash (h x y e (search and_l) i) (search (and_r, not-true)))))
        (all-all f (λ y. not (r x y)) xs a (any_none (r x) xs n)))

    pub no-two-map : (xs : List A) → all_of f xs ≡ true → no_two r xs ≡ true → no_two s (map g xs) ≡ true
    unfolding no_two all_of
    no-two-map [] a k = refl
    no-two-map (x ∷ xs) a k =
        and_i _ _ (ap not (no-later x xs (search and_l) (search and_r) (search (and_l, not-true)))) (no-two-map xs (search and_r) (search and_r))

-- Members ----------------------------------------------------------------------------------------------------------
pub map-has : (g : ℕ → ℕ) (c : List ℕ) (l : ℕ) → has l c ≡ true → has (g l) (map g c) ≡ true
map-has g c l h = unfold has in any-map (λ k. eqb (g l) k) g c ∙ any-has (λ k. eqb (g l) (g k)) c l h (eqb-self (g l))

pub map-from : (g : ℕ → ℕ) (c : List ℕ) (y : ℕ) → has y (map g c) ≡ true → (l : ℕ) × (has l c ≡ true) × (y ≡ g l)
map-from g c y h =
    let w : (l : ℕ) × (has l c ≡ true) × (eqb y (g l) ≡ true) = any-witness (λ l. eqb y (g l)) c
    (sym (any-map (λ k. eqb y k) g c) ∙ unfold has in h) in
    (w.0, w.1, eqb-true y (g w.0) w.2)

pub mentions-has : (c : List ℕ) (l : ℕ) → has l c ≡ true → mentions c (var l) ≡ true
unfolding mentions is_var
mentions-has c l h = any-has (λ k. eqb (var k) (var l)) c l h (eqb-self (var l))

pub mentions-from : (c : List ℕ) (v : ℕ) → mentions c v ≡ true → (l : ℕ) × (has l c ≡ true) × (var l ≡ v)
unfolding mentions is_var
mentions-from c v h =
    let w : (l : ℕ) × (has l c ≡ true) × (eqb (var l) v ≡ true) = any-witness _ c h in (w.0, w.1, eqb-true (var w.0) v w.2)

-- Clauses with the same literals -------------------------------------------------------------------------------------
unfoldable pub alike : List ℕ → List ℕ → Bool
alike c d = part_of c d && part_of d c

pub part-of : (c d : List ℕ) → ((l : ℕ) → has l c ≡ true → has l d ≡ true) → part_of c d ≡ true
unfolding part_of
part-of c d h = all-of-has (λ l. has l d) c h

pub part-has : (c d : List ℕ) → part_of c d ≡ true → (l : ℕ) → has l c ≡ true → has l d ≡ true
unfolding part_of
part-has c d h l = all-has (λ l. has l d) c l h

pub has-ascending : (l : ℕ) (c : List ℕ) → has l (ascending c) ≡ has l c
unfolding has
has-ascending l c = any-ascending (λ k. eqb l k) c

-- what is the same when sorted has the same literals
same_alike : (c d : List ℕ) → same (ascending c) (ascending d) ≡ true → alike c d ≡ true
unfolding alike
same_alike c d h =
    and_i _ _ (part-of c d (λ l k. sym (eq l) ∙ k)) (part-of d c (λ l k. eq l ∙ k))
  where
    eq : (l : ℕ) → has l c ≡ has l d
    eq l = sym (has-ascending l c) ∙ ap (has l) (same-path (ascending c) (ascending d) h) ∙ has-ascending l d

pub distinct-sorted : (cs : List (List ℕ)) → no_two alike cs ≡ true → distinct (map ascending cs) ≡ true
unfolding no_two distinct
distinct-sorted [] h = refl
distinct-sorted (c ∷ cs) h =
    and_i _ _
    (ap not (any-map (same (ascending c)) ascending cs ∙ false_of _ (λ k. clash (any-le _ (alike c) cs (same_alike c) k) (search (and_l, not-true)))))
    (distinct-sorted cs (search and_r))

-- Each variable once -----------------------------------------------------------------------------------------------
unfoldable pub each_once : List ℕ → Bool
each_once [] = true
each_once (l ∷ c) = not (mentions c (var l)) && each_once c

pub ascends-once : (c : List ℕ) → ascends c ≡ true → each_once c ≡ true
unfolding ascends each_once mentions is_var
ascends-once [] h = refl
ascends-once (l ∷ c) h =
    and_i _ _
    (ap not (none_any (λ k. eqb (var k) (var l)) c (all-le (λ k. ltb (var l) (var k)) _ c above (search and_l))))
    (ascends-once c (search and_r))
  where
    above : (k : ℕ) → ltb (var l) (var k) ≡ true → not (eqb (var k) (var l)) ≡ true
    above k e = ap not (eqb-ne _ _ (λ (i : var k ≡ var l). let m = ltb-true (var l) (var k) e in omega arith))

pub once-keep : (t : ℕ → Bool) (c : List ℕ) → each_once c ≡ true → each_once (keep_if t c) ≡ true
unfolding each_once keep_if mentions
once-keep t [] h = refl
once-keep t (l ∷ c) h =
    by_cases (t l)
    (λ e. rw e (and_i _ _
    (ap not (false_of _ (λ k. clash (any-keep-le (is_var (var l)) t c k) (search (and_l, not-true)))))
    (once-keep t c (search and_r))))
    (λ e. rw e (once-keep t c (search and_r)))

-- two literals of one variable are one
once-path : (c : List ℕ) → each_once c ≡ true → (l k : ℕ) → has l c ≡ true → has k c ≡ true → var l ≡ var k → l ≡ k
unfolding each_once has any_of
once-path [] h l k i j e = absurd (false≢true i)
once-path (x ∷ c) h l k i j e =
    or_elim (eqb l x) _ i
    (λ p. or_elim (eqb k x) _ j
    (λ q. eqb-true l x p ∙ sym (eqb-true k x q))
    (λ q. absurd (out k q (sym e ∙ ap var (eqb-true l x p)))))
    (λ p. or_elim (eqb k x) _ j
    (λ q. absurd (out l p (e ∙ ap var (eqb-true k x q))))
    (λ q. once-path c (search and_r) l k p q e))
  where
    out : (y : ℕ) → has y c ≡ true → var y ≡ var x → ⊥
    out y m v = clash (rw v at (mentions-has c y m)) (not-true _ (and_l (not (mentions c (var x))) (each_once c) h))

pub once-single : (c : List ℕ) → each_once c ≡ true → both_phases (ascending c) ≡ false
unfolding both_phases
once-single c h =
    false_of _ (λ b. let w : (k : ℕ) × (has k (ascending c) ≡ true) × (has (opposite k) (ascending c) ≡ true) = any-witness _ (ascending c) b in
    opp-differs w.0 (once-path c h (opposite w.0) w.0
    (sym (has-ascending (opposite w.0) c) ∙ w.2) (sym (has-ascending w.0 c) ∙ w.1) (var-opp w.0)))

-- sorted, it is as long
insert-longer : (l : ℕ) (c : List ℕ) → has l c ≡ false → length (insert_new l c) ≡ suc (length c)
unfolding insert_new has any_of
insert-longer l [] h = refl
insert-longer l (k ∷ c) h = go (ltb l k) (insert-longer l c (or_r (eqb l k) _ h))
  where
    go : (s : Bool) → length (insert_new l c) ≡ suc (length c)
        → length (cond s (l ∷ k ∷ c) (cond (eqb l k) (k ∷ c) (k ∷ insert_new l c))) ≡ suc (suc (length c))
    go true ih = refl
    go false ih = rw (or_l (eqb l k) (has l c) h) (ap suc ih)

pub once-length : (c : List ℕ) → each_once c ≡ true → length (ascending c) ≡ length c
unfolding each_once ascending
once-length [] h = refl
once-length (l ∷ c) h =
    insert-longer l (ascending c) (has-ascending l c ∙ false_of _ (λ k. clash (mentions-has c l k) (search (and_l, not-true))))
    ∙ ap suc (once-length c (search and_r))

pub once-literals : (cs : List (List ℕ)) → all_of each_once cs ≡ true → literals (map ascending cs) ≡ literals cs
unfolding literals all_of
once-literals [] h = refl
once-literals (c ∷ cs) h = rw (once-length c (search and_l), once-literals cs (search and_r))
