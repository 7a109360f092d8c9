-- Literals counted: a literal stands in the clauses of a well formed formula as often as there are clauses with it, and before its
-- list stand as many numbers as there are lower literals.
-- Assumes nothing.
use Prim.Native.Nat.{ℕ, zero, suc, ◌+◌, ◌≤◌, ◌<◌}
use mathlib.Core.Path.{◌≡◌, refl, ap, ◌∙◌}
use mathlib.Core.Bool.{Bool, true, false, ◌||◌, cond}
use mathlib.Core.List.{List, [], ◌∷◌, ◌++◌}
use lib.ListN.{length, get_or, take, length-append}
use lib.Dec.{eqb, ltb}
use borrow.Author.Tests.{lt-ltb, le-ltb, ltb-true, ltb-false, ne_eqb}
use native.Mathlib.Omega.{arith}
use native.Mathlib.Nat.{not-suc-le-zero, le_of_suc-le-suc}
use Rattle.meaning.specs.Lists.{all_of, any_of, keep_if, has}
use Rattle.meaning.specs.Formula.{var}
use Rattle.meaning.specs.WellFormed.{ascends, literals}
use Rattle.table.specs.Table.{all_literals}
use Rattle.index.specs.Index.{clauses_from, clauses_with, lists_below, list_start}
use Rattle.index.specs.Build.{times, lower}
use Rattle.meaning.proofs.Basics.{by_cases, false_of, and_l, and_r, eqb-true, eqb-false}
use Rattle.meaning.proofs.Lists.{all-has}
use Rattle.meaning.proofs.Weight.{keep-length}
use Rattle.table.proofs.LoopLaws.{all_get_d}
use Rattle.table.proofs.PadLaws.{length-all}

-- Lower literals -------------------------------------------------------------------------------------------------
pub lower-zero : (c : List ℕ) → lower c 0 ≡ 0
unfolding lower keep_if
lower-zero [] = refl
lower-zero (x ∷ c) = rw (le-ltb x 0 (omega arith)) (lower-zero c)

pub lower-next : (c : List ℕ) (l : ℕ) → lower c (suc l) ≡ lower c l + times c l
unfolding lower times keep_if
lower-next [] l = omega arith
lower-next (x ∷ c) l =
    let ih : length (keep_if (λ k. ltb k (suc l)) c) ≡ length (keep_if (λ k. ltb k l) c) + length (keep_if (λ k. eqb l k) c) = lower-next c l in
    by_cases (ltb x l)
    (λ t. let h = ltb-true x l t in rw (t, lt-ltb x (suc l) (omega arith), ne_eqb l x (λ e. omega arith)) (omega arith))
    (λ t. let h = ltb-false x l t in
    by_cases (eqb l x)
    (λ s. let e = eqb-true l x s in rw (t, s, lt-ltb x (suc l) (omega arith)) (omega arith))
    (λ s. let d = eqb-false l x s in rw (t, s, le-ltb x (suc l) (omega arith)) (omega arith)))

pub lower-within : (c : List ℕ) (l : ℕ) → lower c l ≤ length c
unfolding lower
lower-within c l = keep-length (λ k. ltb k l) c

-- How often a literal stands somewhere ---------------------------------------------------------------------------
pub times-append : (c d : List ℕ) (l : ℕ) → times (c ++ d) l ≡ times c l + times d l
unfolding times keep_if
times-append [] d l = omega arith
times-append (x ∷ c) d l = go (eqb l x) (times-append c d l)
  where
    go : (t : Bool) → length (keep_if (λ k. eqb l k) (c ++ d)) ≡ length (keep_if (λ k. eqb l k) c) + length (keep_if (λ k. eqb l k) d)
        → length (cond t (x ∷ keep_if (λ k. eqb l k) (c ++ d)) (keep_if (λ k. eqb l k) (c ++ d)))
        ≡ length (cond t (x ∷ keep_if (λ k. eqb l k) c) (keep_if (λ k. eqb l k) c)) + length (keep_if (λ k. eqb l k) d)
    go true ih = omega arith
    go false ih = ih

-- in a clause whose variables ascend, once
times-clause : (c : List ℕ) (l : ℕ) → ascends c ≡ true → times c l ≡ cond (has l c) 1 0
unfolding times keep_if has any_of ascends
times-clause [] l up = refl
times-clause (x ∷ c) l up = go (eqb l x) refl (times-clause c l (and_r (all_of (λ k. ltb (var x) (var k)) c) (ascends c) up))
  where
    out : eqb l x ≡ true → any_of (λ k. eqb l k) c ≡ false
    out e =
        false_of (any_of (λ k. eqb l k) c)
        (λ h.
        let a = all-has (λ k. ltb (var x) (var k)) c l (and_l (all_of (λ k. ltb (var x) (var k)) c) (ascends c) up) (unfold has in h) in
        let m = ltb-true (var x) (var l) a in
        omega (arith, ap var (eqb-true l x e)))

    go : (t : Bool) → eqb l x ≡ t → length (keep_if (λ k. eqb l k) c) ≡ cond (any_of (λ k. eqb l k) c) 1 0
        → length (cond t (x ∷ keep_if (λ k. eqb l k) c) (keep_if (λ k. eqb l k) c)) ≡ cond (t || any_of (λ k. eqb l k) c) 1 0
    go true e ih = ap suc (ih ∙ rw (out e))
    go false e ih = ih

-- a literal of such a clause is not among those before it
pub ascends_front : (c : List ℕ) (j : ℕ) → ascends c ≡ true → j < length c → has (get_or c j 0) (take j c) ≡ false
unfolding has any_of ascends
ascends_front [] j up h = absurd (not-suc-le-zero h)
ascends_front (x ∷ c) zero up h = refl
ascends_front (x ∷ c) (suc j) up h =
    let a = all_get_d (λ k. ltb (var x) (var k)) 0 c j (and_l (all_of (λ k. ltb (var x) (var k)) c) (ascends c) up) (le_of_suc-le-suc h) in
    let m = ltb-true (var x) (var (get_or c j 0)) a in
    rw (ne_eqb (get_or c j 0) x (λ e. omega (arith, ap var e)))
    (ascends_front c j (and_r (all_of (λ k. ltb (var x) (var k)) c) (ascends c) up) (le_of_suc-le-suc h))

-- in all clauses, as often as there are clauses with it
times-from : (l k : ℕ) (cs : List (List ℕ)) → all_of ascends cs ≡ true → times (all_literals cs) l ≡ length (clauses_from k cs l)
unfolding all_literals clauses_from all_of
times-from l k [] up = unfold times keep_if in refl
times-from l k (c ∷ cs) up =
    times-append c (all_literals cs) l
    ∙ ap (λ (n : ℕ). n + times (all_literals cs) l) (times-clause c l (and_l (ascends c) (all_of ascends cs) up))
    ∙ go (has l c) (times-from l (suc k) cs (and_r (ascends c) (all_of ascends cs) up))
  where
    go : (t : Bool) → times (all_literals cs) l ≡ length (clauses_from (suc k) cs l)
        → cond t 1 0 + times (all_literals cs) l ≡ length (cond t (k ∷ clauses_from (suc k) cs l) (clauses_from (suc k) cs l))
    go true ih = omega arith
    go false ih = omega arith

module _ (cs : List (List ℕ)) (up : all_of ascends cs ≡ true) where
  pub times-with : (l : ℕ) → times (all_literals cs) l ≡ length (clauses_with cs l)
  unfolding clauses_with
  times-with l = times-from l 0 cs up

  -- and so before its list stand as many numbers as there are lower literals
  pub lower-lists : (l : ℕ) → lower (all_literals cs) l ≡ list_start cs l
  unfolding lists_below
  lower-lists zero = lower-zero (all_literals cs)
  lower-lists (suc l) =
      let ih : lower (all_literals cs) l ≡ list_start cs l = lower-lists l in
      lower-next (all_literals cs) l ∙ omega (arith, length-append (lists_below cs l) (clauses_with cs l), times-with l)

  pub lists-within : (l : ℕ) → list_start cs l ≤ literals cs
  lists-within l = omega (arith, lower-lists l, lower-within (all_literals cs) l, length-all cs)
