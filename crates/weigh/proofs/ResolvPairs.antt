-- The resolvents are those of the pairs, by their numbers.
-- Assumes nothing.
use Prim.Native.Nat.{ℕ, zero, suc, ◌+◌, ◌-◌, ◌*◌, ◌/◌, ◌%◌, ◌<◌}
use mathlib.Core.Path.{◌≡◌, refl, sym, ap, ◌∙◌}
use mathlib.Core.List.{List, [], ◌∷◌, ◌++◌}
use lib.ListN.{length, get_or, length-append, get_or-append}
use lib.Dec.{ltb}
use borrow.Author.Tests.{ltb-true, ltb-false}
use native.Mathlib.Omega.{arith}
use native.Mathlib.Nat.{zero-mul, suc-mul, mod-eq_of_lt, div-eq_of_lt, mul-zero, add-div_left, add-mod_left}
use native.Mathlib.Numerals.{add-one}
use Rattle.rules.specs.Eliminate.{resolvents_of, resolvents}
use Rattle.resolvents.specs.Resolvent.{resolvent}
use Rattle.meaning.proofs.Basics.{by_cases}
use Rattle.table.proofs.ListLaws.{get_d-skip}

pub one-length : (a : ℕ) (x : List ℕ) (ys : List (List ℕ)) → length (resolvents_of a x ys) ≡ length ys
unfolding resolvents_of
one-length a x [] = refl
one-length a x (y ∷ ys) = ap suc (one-length a x ys)

one_at : (a : ℕ) (x : List ℕ) (ys : List (List ℕ)) (k : ℕ) → k < length ys → get_or (resolvents_of a x ys) k [] ≡ resolvent a x (get_or ys k [])
unfolding resolvents_of resolvent
one_at a x [] k h = absurd (omega arith)
one_at a x (y ∷ ys) zero h = refl
one_at a x (y ∷ ys) (suc k) h = one_at a x ys k (omega arith)

pub pairs-length : (a : ℕ) (xs ys : List (List ℕ)) → length (resolvents a xs ys) ≡ length xs * length ys
unfolding resolvents
pairs-length a [] ys = sym (zero-mul (length ys))
pairs-length a (x ∷ xs) ys =
    length-append (resolvents_of a x ys) (resolvents a xs ys)
    ∙ rw (one-length a x ys, pairs-length a xs ys, suc-mul (length xs) (length ys)) (omega arith)

pub some-negative : (a : ℕ) (xs ys : List (List ℕ)) (k : ℕ) → k < length (resolvents a xs ys) → 0 < length ys
some-negative a xs [] k h = absurd (omega (arith, pairs-length a xs [], mul-zero (length xs)))
some-negative a xs (y ∷ ys) k h = omega arith

-- the pairs of the first positive clause come before those of the others
pair-later : (a : ℕ) (x : List ℕ) (xs ys : List (List ℕ)) (n m : ℕ) → length ys ≡ n → 0 < n
    → get_or (resolvents a xs ys) m [] ≡ resolvent a (get_or xs (m / n) []) (get_or ys (m % n) [])
    → get_or (resolvents_of a x ys ++ resolvents a xs ys) (n + m) [] ≡ resolvent a (get_or (x ∷ xs) ((n + m) / n) []) (get_or ys ((n + m) % n) [])
pair-later a x xs ys n m e p ih =
    get_d-skip (resolvents_of a x ys) (resolvents a xs ys) n m [] (one-length a x ys ∙ e)
    ∙ ih ∙ sym (rw (add-div_left m p, add-mod_left n m, add-one))

-- pair k is the positive clause k / n and the negative clause k % n, where n are negative
pub pair-at : (a : ℕ) (xs ys : List (List ℕ)) (k : ℕ) → k < length (resolvents a xs ys)
    → get_or (resolvents a xs ys) k [] ≡ resolvent a (get_or xs (k / length ys) []) (get_or ys (k % length ys) [])
unfolding resolvents
pair-at a [] ys k h = absurd (omega arith)
pair-at a (x ∷ xs) ys k h =
    let n = length ys in
    by_cases (ltb k n)
    (λ e. let l = ltb-true k n e in get_or-append (resolvents_of a x ys) (resolvents a xs ys) [] k (omega (arith, one-length a x ys))
    ∙ one_at a x ys k l ∙ rw (div-eq_of_lt l, mod-eq_of_lt l))
    (λ e. let d : k ≡ n + (k - n) = omega (arith, ltb-false k n e) in
    rw d
    (pair-later a x xs ys n (k - n) refl (some-negative a (x ∷ xs) ys k h)
    (pair-at a xs ys (k - n) (omega (arith, length-append (resolvents_of a x ys) (resolvents a xs ys), one-length a x ys)))))
