-- The numbers of the copies: there are as many as asked for, each once, none in the prefix, none 0. Assumes nothing.
use mathlib.Core.Path.{◌≡◌, refl, ◌∙◌, ap}
use Prim.Native.Nat.{ℕ, zero, suc, ◌+◌, ◌≤◌}
use mathlib.Core.Bool.{Bool, true, false, ◌&&◌, ◌||◌, not, false≢true}
use mathlib.Core.List.{List, [], ◌∷◌}
use native.Mathlib.Omega.{arith}
use lib.Dec.{eqb, ltb, leb}
use borrow.Author.Tests.{leb-true, le-leb}
use lib.ListN.{length, take, length-take}
use Rattle.meaning.specs.Lists.{all_of, any_of, keep_if, has, up_from}
use Rattle.meaning.specs.Formula.{var, is_var, mentions}
use Rattle.rules.specs.Eliminate.{fresh}
use Rattle.meaning.proofs.Basics.{by_cases, clash, false_of, and_l, and_r, and_i, or-il, or-ir, or_elim, not-true, eqb-true}
use Rattle.meaning.proofs.Lists.{any-keep-le, all-kept, all-keep-le, all-has, any_none, keep_all, all-of-has, keep-twice}

-- each element once
unfoldable pub once : List ℕ → Bool
once [] = true
once (x ∷ xs) = not (has x xs) && once xs

keep-once : (t : ℕ → Bool) (xs : List ℕ) → once xs ≡ true → once (keep_if t xs) ≡ true
unfolding once keep_if has
keep-once t [] h = refl
keep-once t (x ∷ xs) h =
    by_cases (t x)
    (λ e. rw e (and_i _ _ (ap not (false_of _ (λ k. clash (any-keep-le (λ y. eqb x y) t xs k) (search (and_l, not-true))))) (keep-once t xs (search and_r))))
    (λ e. rw e (keep-once t xs (search and_r)))

take-le : (f : ℕ → Bool) (n : ℕ) (xs : List ℕ) → any_of f (take n xs) ≡ true → any_of f xs ≡ true
unfolding any_of
take-le f zero xs h = absurd (false≢true h)
take-le f (suc n) [] h = h
take-le f (suc n) (x ∷ xs) h = or_elim (f x) _ h (λ e. or-il (f x) _ e) (λ e. or-ir (f x) _ (take-le f n xs e))

take_all : (f : ℕ → Bool) (n : ℕ) (xs : List ℕ) → all_of f xs ≡ true → all_of f (take n xs) ≡ true
unfolding all_of
take_all f zero xs h = refl
take_all f (suc n) [] h = h
take_all f (suc n) (x ∷ xs) h = let r = take_all f n xs (search and_r) in search (and_i, and_l)

take-once : (n : ℕ) (xs : List ℕ) → once xs ≡ true → once (take n xs) ≡ true
unfolding once has
take-once zero xs h = refl
take-once (suc n) [] h = h
take-once (suc n) (x ∷ xs) h =
    and_i _ _ (ap not (false_of _ (λ k. clash (take-le (λ y. eqb x y) n xs k) (search (and_l, not-true))))) (take-once n xs (search and_r))

-- to leave out one number shortens by one at most
leave-one : (x : ℕ) (ys : List ℕ) → once ys ≡ true → length ys ≤ suc (length (keep_if (λ v. not (eqb x v)) ys))
unfolding once keep_if
leave-one x [] h = omega arith
leave-one x (y ∷ ys) h =
    by_cases (eqb x y) (λ e. rw (e, keep_all _ ys (any_none _ ys (gone e))) (omega arith)) (λ e. rw e (omega (arith, leave-one x ys (search and_r))))
  where
    gone : eqb x y ≡ true → any_of (λ v. eqb x v) ys ≡ false
    gone e = unfold has in rw (eqb-true x y e) (search (and_l, not-true))

-- a prefix leaves out no more numbers than it has entries
leave-prefix : (p xs : List ℕ) → once xs ≡ true → length xs ≤ length p + length (keep_if (λ v. not (mentions p v)) xs)
unfolding mentions is_var any_of
leave-prefix [] xs h = rw (keep_all _ xs (all-of-has _ xs (λ k i. refl))) (omega arith)
leave-prefix (q ∷ p) xs h =
    rw (← keep-twice (λ v. not (eqb (var q) v)) _ _ (λ v. neither (eqb (var q) v) (mentions p v)) xs)
    (omega (arith, leave-prefix p xs h, leave-one (var q) _ (keep-once (λ v. not (mentions p v)) xs h)))
  where
    neither : (s t : Bool) → (not s && not t) ≡ not (s || t)
    neither true t = refl
    neither false t = refl

-- the numbers from s on
up-length : (s n : ℕ) → length (up_from s n) ≡ n
unfolding up_from
up-length s zero = refl
up-length s (suc n) = ap suc (up-length (suc s) n)

up_above : (s n t : ℕ) → t ≤ s → all_of (λ v. leb t v) (up_from s n) ≡ true
unfolding up_from all_of
up_above s zero t h = refl
up_above s (suc n) t h = and_i _ _ (le-leb t s h) (up_above (suc s) n t (omega arith))

up-once : (s n : ℕ) → once (up_from s n) ≡ true
unfolding up_from once
up-once s zero = refl
up-once s (suc n) = and_i _ _ (ap not (false_of _ below)) (up-once (suc s) n)
  where
    below : has s (up_from (suc s) n) ≡ true → ⊥
    below h = let l : suc s ≤ s = leb-true (suc s) s (all-has _ _ s (up_above (suc s) n (suc s) (omega arith)) h) in omega arith

-- The numbers of the copies ----------------------------------------------------------------------------------
pub fresh-length : (p : List ℕ) (n : ℕ) → length (fresh p n) ≡ n
unfolding fresh
fresh-length p n =
    let enough : length (up_from 1 (length p + n)) ≤ length p + length (keep_if (λ v. not (mentions p v)) (up_from 1 (length p + n))) = leave-prefix p _ (up-once 1 (length p + n)) in
    let all : length (up_from 1 (length p + n)) ≡ length p + n = up-length 1 (length p + n) in
    length-take n (keep_if (λ v. not (mentions p v)) (up_from 1 (length p + n))) ∙ omega arith

pub fresh-once : (p : List ℕ) (n : ℕ) → once (fresh p n) ≡ true
unfolding fresh
fresh-once p n = take-once n _ (keep-once _ _ (up-once 1 (length p + n)))

pub fresh-out : (p : List ℕ) (n : ℕ) → all_of (λ v. not (mentions p v)) (fresh p n) ≡ true
unfolding fresh
fresh-out p n = take_all _ n _ (all-kept (λ v. not (mentions p v)) (up_from 1 (length p + n)))

pub fresh-above : (p : List ℕ) (n : ℕ) → all_of (λ v. ltb 0 v) (fresh p n) ≡ true
unfolding fresh
fresh-above p n = take_all _ n _ (all-keep-le _ _ _ (up_above 1 (length p + n) 1 (omega arith)))
