-- Two ascending clauses by their first literals: which of them can be passed, for the part test and for the strengthening test.
-- Assumes nothing.
use Prim.Native.Nat.{ℕ, ◌+◌, ◌*◌, ◌/◌, ◌≤◌, ◌<◌}
use mathlib.Core.Path.{◌≡◌, refl, sym, ap, ◌∙◌}
use mathlib.Core.Bool.{Bool, true, false, ◌&&◌, not}
use mathlib.Core.List.{List, [], ◌∷◌}
use lib.ListN.{length}
use lib.Dec.{eqb, ltb}
use borrow.Author.Tests.{lt-ltb, ltb-true, ltb-false}
use native.Mathlib.Omega.{arith}
use Rattle.meaning.specs.Lists.{any_of, all_of, keep_if, has, part_of, without}
use Rattle.meaning.specs.Formula.{var, odd, opposite, existential}
use Rattle.meaning.specs.WellFormed.{ascends}
use Rattle.rules.specs.Simplify.{strengthens}
use Rattle.walks.specs.Walks.{some_strengthens}
use Rattle.meaning.proofs.Basics.{by_cases, false_of, and_l, and_r, and_i, eqb-self, eqb-ne, eqb-true, eqb-false, or-false}
use Rattle.meaning.proofs.Lists.{all-le, all-agree, any-agree, all-has, all-keep-le, keep_all}
use Rattle.meaning.proofs.Literals.{var-opp, odd_is, even_is, opp-odd, opp-even}
use Rattle.meaning.proofs.Ascends.{opp-differs}

-- all of the list have a variable above v
unfoldable pub above : ℕ → List ℕ → Bool
above v c = all_of (λ k. ltb v (var k)) c

module _ (l : ℕ) (x : List ℕ) (up : ascends (l ∷ x) ≡ true) where
  pub above-head : above (var l) x ≡ true
  unfolding above ascends
  above-head = search and_l

  pub ascends-tail : ascends x ≡ true
  unfolding ascends
  ascends-tail = search and_r

  -- all of it, where the first is
  above-all : (v : ℕ) → v < var l → above v (l ∷ x) ≡ true
  unfolding above all_of
  above-all v h =
      and_i (ltb v (var l)) (above v x) (lt-ltb v (var l) h)
      (all-le (λ k. ltb (var l) (var k)) (λ k. ltb v (var k)) x
      (λ k m. let n = ltb-true (var l) (var k) m in lt-ltb v (var k) (omega arith)) above-head)

-- What the first literal of the other decides --------------------------------------------------------------------
has_first : (k : ℕ) (y : List ℕ) → has k (k ∷ y) ≡ true
unfolding has any_of
has_first k y = rw (eqb-self k)

has-later : (m k : ℕ) (y : List ℕ) → (m ≡ k → ⊥) → has m (k ∷ y) ≡ has m y
unfolding has any_of
has-later m k y d = rw (eqb-ne m k d)

has-below : (m v : ℕ) (y : List ℕ) → var m ≤ v → above v y ≡ true → has m y ≡ false
unfolding above
has-below m v y h a = false_of (has m y) (λ e. let n = ltb-true v (var m) (all-has (λ k. ltb v (var k)) y m a e) in omega arith)

part-later : (k : ℕ) (x y : List ℕ) → above (var k) x ≡ true → part_of x (k ∷ y) ≡ part_of x y
unfolding part_of above
part-later k x y a =
    all-agree (λ m. ltb (var k) (var m)) (λ m. has m (k ∷ y)) (λ m. has m y) x a
    (λ m h. let n = ltb-true (var k) (var m) h in has-later m k y (λ e. omega (arith, ap var e)))

-- The part test --------------------------------------------------------------------------------------------------
module _ (l k : ℕ) (x y : List ℕ) (up : ascends (l ∷ x) ≡ true) (too : ascends (k ∷ y) ≡ true) where
  pub part_same : l ≡ k → part_of (l ∷ x) (k ∷ y) ≡ part_of x y
  unfolding part_of all_of
  part_same e = rw (← e) (rw (has_first l y) (part-later k x y (rw e at (above-head l x up))))

  pub part-past : k < l → part_of (l ∷ x) (k ∷ y) ≡ part_of (l ∷ x) y
  unfolding part_of all_of var
  part-past h =
      rw (has-later l k y (λ e. omega arith))
      (ap (λ (b : Bool). has l y && b)
      (all-agree (λ m. ltb (l / 2) (m / 2)) (λ m. has m (k ∷ y)) (λ m. has m y) x (unfold above in above-head l x up)
      (λ m a. let n = ltb-true (l / 2) (m / 2) a in has-later m k y (λ e. omega arith))))

  pub part-not : l < k → part_of (l ∷ x) (k ∷ y) ≡ false
  unfolding part_of all_of var
  part-not h =
      rw (has-later l k y (λ e. omega arith) ∙ has-below l (var k) y (omega arith) (above-head k y too))

pub part_none : (l : ℕ) (x : List ℕ) → part_of (l ∷ x) [] ≡ false
unfolding part_of all_of has any_of
part_none l x = refl

-- a literal and another one of its variable
flipped : (l k : ℕ) → (l ≡ k → ⊥) → var l ≡ var k → opposite l ≡ k
unfolding var
flipped l k d v =
    by_cases (odd l)
    (λ h. let o : opposite l ≡ 2 * (l / 2) = opp-odd l h in let m = odd_is l h in omega arith)
    (λ h. let o : opposite l ≡ 2 * (l / 2) + 1 = opp-even l h in let m = even_is l h in omega arith)

-- what is longer is no part
pub part-longer : (x y : List ℕ) → ascends x ≡ true → ascends y ≡ true → length y < length x → part_of x y ≡ false
part-longer [] y up too h = absurd (omega arith)
part-longer (l ∷ x) [] up too h = part_none l x
part-longer (l ∷ x) (k ∷ y) up too h =
    by_cases (eqb l k)
    (λ e. part_same l k x y up too (eqb-true l k e) ∙ part-longer x y (ascends-tail l x up) (ascends-tail k y too) (omega arith))
    (λ e. let d = eqb-false l k e in
    by_cases (ltb k l)
    (λ m. part-past l k x y up too (ltb-true k l m) ∙ part-longer (l ∷ x) y up (ascends-tail k y too) (omega arith))
    (λ m. let n = ltb-false k l m in part-not l k x y up too (omega arith)))

-- The strengthening test -----------------------------------------------------------------------------------------
-- without a literal of a higher variable
without-later : (m l : ℕ) (x : List ℕ) → var l < var m → without m (l ∷ x) ≡ l ∷ without m x
unfolding without keep_if
without-later m l x h = rw (eqb-ne m l (λ e. omega (arith, ap var e)))

without-first : (l : ℕ) (x : List ℕ) → ascends (l ∷ x) ≡ true → without l (l ∷ x) ≡ x
unfolding without keep_if
without-first l x up =
    rw (eqb-self l)
    (keep_all (λ k. not (eqb l k)) x
    (all-le (λ k. ltb (var l) (var k)) (λ k. not (eqb l k)) x
    (λ k a. let n = ltb-true (var l) (var k) a in ap not (eqb-ne l k (λ e. omega (arith, ap var e)))) (unfold above in above-head l x up)))

and_no : (a b : Bool) → (a && (b && false)) ≡ false
and_no true true = refl
and_no true false = refl
and_no false b = refl

and-not : (a : Bool) → (a && false) ≡ false
and-not true = refl
and-not false = refl

none_passes : (z : List ℕ) → any_of (λ (m : ℕ). false) z ≡ false
unfolding any_of
none_passes [] = refl
none_passes (m ∷ z) = none_passes z

-- a literal k of a lower variable than all of x makes no difference
later : (p x y : List ℕ) (k : ℕ) → above (var k) x ≡ true → (m : ℕ) → ltb (var k) (var m) ≡ true
    → strengthens p x (k ∷ y) m ≡ strengthens p x y m
unfolding strengthens without
later p x y k a m h =
    let n = ltb-true (var k) (var m) h in
    rw (
      has-later (opposite m) k y (λ e. omega (arith, ap var e, var-opp m)),
      part-later k (keep_if (λ j. not (eqb m j)) x) y (unfold above in all-keep-le (λ j. ltb (var k) (var j)) (λ j. not (eqb m j)) x (unfold above in a)),
    )

module _ (p : List ℕ) (l : ℕ) (x : List ℕ) (up : ascends (l ∷ x) ≡ true) where
  -- no literal behind l strengthens what has no l
  behind-none : (y : List ℕ) → has l y ≡ false → any_of (strengthens p (l ∷ x) y) x ≡ false
  unfolding strengthens
  behind-none y h =
      any-agree (λ m. ltb (var l) (var m)) (strengthens p (l ∷ x) y) (λ m. false) x (unfold above in above-head l x up)
      (λ m a. let n = ltb-true (var l) (var m) a in
      rw (without-later m l x n, out (without m x)) (and_no (existential p (var m)) (has (opposite m) y)))
      ∙ none_passes x
    where
      out : (z : List ℕ) → part_of (l ∷ z) y ≡ false
      out z = unfold part_of all_of in rw h

  -- neither l nor its opposite is there
  strong-neither : (y : List ℕ) → has l y ≡ false → has (opposite l) y ≡ false → some_strengthens p (l ∷ x) y ≡ false
  unfolding some_strengthens
  strong-neither y h o = unfold any_of in rw (own, behind-none y h)
    where
      own : strengthens p (l ∷ x) y l ≡ false
      own = unfold strengthens in rw o (and-not (existential p (var l)))

  pub strong-end : some_strengthens p (l ∷ x) [] ≡ false
  strong-end = strong-neither [] (unfold has any_of in refl) (unfold has any_of in refl)

  module _ (k : ℕ) (y : List ℕ) (too : ascends (k ∷ y) ≡ true) where
    pub strong-same : l ≡ k → some_strengthens p (l ∷ x) (k ∷ y) ≡ some_strengthens p x y
    unfolding some_strengthens
    strong-same e =
        rw (← e)
        (unfold any_of in
        rw own
        (any-agree (λ m. ltb (var l) (var m)) (strengthens p (l ∷ x) (l ∷ y)) (strengthens p x y) x (unfold above in above-head l x up)
        (λ m a. behind m a)))
      where
        rest : above (var l) y ≡ true
        rest = rw e (above-head k y too)

        own : strengthens p (l ∷ x) (l ∷ y) l ≡ false
        own =
            unfold strengthens in
            rw (has-later (opposite l) l y (opp-differs l), has-below (opposite l) (var l) y (omega (arith, var-opp l)) rest) (and-not (existential p (var l)))

        behind : (m : ℕ) → ltb (var l) (var m) ≡ true → strengthens p (l ∷ x) (l ∷ y) m ≡ strengthens p x y m
        behind m a =
            let n = ltb-true (var l) (var m) a in
            sym (sym (later p x y l (above-head l x up) m a)
            ∙ (unfold strengthens in rw (without-later m l x n) (unfold part_of all_of in rw (has_first l y))))

    pub strong-past : var k < var l → some_strengthens p (l ∷ x) (k ∷ y) ≡ some_strengthens p (l ∷ x) y
    unfolding some_strengthens
    strong-past h =
        let a = above-all l x up (var k) h in
        any-agree (λ m. ltb (var k) (var m)) (strengthens p (l ∷ x) (k ∷ y)) (strengthens p (l ∷ x) y) (l ∷ x) (unfold above in a)
        (λ m b. later p (l ∷ x) y k a m b)

    pub strong-not : var l < var k → some_strengthens p (l ∷ x) (k ∷ y) ≡ false
    strong-not h =
        let a = above-all k y too (var l) h in
        strong-neither (k ∷ y) (has-below l (var l) (k ∷ y) (omega arith) a)
        (has-below (opposite l) (var l) (k ∷ y) (omega (arith, var-opp l)) a)

    -- the opposite of l stands there
    pub strong-here : (l ≡ k → ⊥) → var l ≡ var k → some_strengthens p (l ∷ x) (k ∷ y) ≡ (existential p (var l) && part_of x y)
    unfolding some_strengthens
    strong-here d v = unfold any_of in rw (own, behind-none (k ∷ y) out) (or-false (existential p (var l) && part_of x y))
      where
        opp : opposite l ≡ k
        opp = flipped l k d v

        out : has l (k ∷ y) ≡ false
        out = has-later l k y d ∙ has-below l (var k) y (omega arith) (above-head k y too)

        own : strengthens p (l ∷ x) (k ∷ y) l ≡ (existential p (var l) && part_of x y)
        own =
            unfold strengthens in
            rw (opp, has_first k y, without-first l x up, part-later k x y (rw v at (above-head l x up)))

-- what is longer strengthens nothing
pub strong-longer : (p x y : List ℕ) → ascends x ≡ true → ascends y ≡ true → length y < length x → some_strengthens p x y ≡ false
strong-longer p [] y up too h = absurd (omega arith)
strong-longer p (l ∷ x) [] up too h = strong-end p l x up
strong-longer p (l ∷ x) (k ∷ y) up too h =
    by_cases (eqb l k)
    (λ e. strong-same p l x up k y too (eqb-true l k e) ∙ strong-longer p x y (ascends-tail l x up) (ascends-tail k y too) (omega arith))
    (λ e. let d = eqb-false l k e in
    by_cases (ltb (var k) (var l))
    (λ m. strong-past p l x up k y too (ltb-true (var k) (var l) m) ∙ strong-longer p (l ∷ x) y up (ascends-tail k y too) (omega arith))
    (λ m. let n = ltb-false (var k) (var l) m in
    by_cases (ltb (var l) (var k))
    (λ q. strong-not p l x up k y too (ltb-true (var l) (var k) q))
    (λ q. let r = ltb-false (var l) (var k) q in
    strong-here p l x up k y too d (omega arith)
    ∙ rw (part-longer x y (ascends-tail l x up) (ascends-tail k y too) (omega arith)) (and-not (existential p (var l))))))
