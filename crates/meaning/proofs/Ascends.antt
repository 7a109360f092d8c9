-- In a clause whose variables ascend each variable stands once. Assumes nothing.
use mathlib.Core.Path.{◌≡◌, sym, ◌∙◌, ap}
use Prim.Native.Nat.{ℕ, ◌<◌}
use mathlib.Core.Bool.{Bool, true, false, not, true≢false, false≢true}
use mathlib.Core.List.{List, [], ◌∷◌}
use native.Mathlib.Omega.{arith}
use lib.Dec.{eqb, ltb, ltb→lt}
use Rattle.meaning.specs.Lists.{all_of, any_of, has}
use Rattle.meaning.specs.Formula.{var, odd, opposite}
use Rattle.meaning.specs.WellFormed.{ascends}
use Rattle.meaning.specs.Tidy.{both_phases}
use Rattle.meaning.proofs.Basics.{clash, false_of, and_l, and_r, or_elim, T_of, eqb-true}
use Rattle.meaning.proofs.Literals.{var-opp, odd-opp}
use Rattle.meaning.proofs.Lists.{all-has, any-witness}

-- in a tidy clause a variable stands once
ascends-above : (l : ℕ) (c : List ℕ) → all_of (λ k. ltb (var l) (var k)) c ≡ true → (k : ℕ) → has k c ≡ true → var k ≡ var l → ⊥
ascends-above l c up k h e =
    let m : var l < var k = ltb→lt (var l) (var k) (T_of (ltb (var l) (var k)) (all-has (λ k. ltb (var l) (var k)) c k up h)) in
    omega arith

pub ascends-once : (c : List ℕ) → ascends c ≡ true → (l k : ℕ) → has l c ≡ true → has k c ≡ true → var l ≡ var k → l ≡ k
unfolding ascends has any_of
ascends-once [] up l k h i e = absurd (false≢true h)
ascends-once (j ∷ c) up l k h i e =
    or_elim (eqb l j) (any_of (λ y. eqb l y) c) h
    (λ x. or_elim (eqb k j) (any_of (λ y. eqb k y) c) i
    (λ y. eqb-true l j x ∙ sym (eqb-true k j y))
    (λ y. absurd (ascends-above j c (search and_l) k y (sym e ∙ ap var (eqb-true l j x)))))
    (λ x. or_elim (eqb k j) (any_of (λ y. eqb k y) c) i
    (λ y. absurd (ascends-above j c (search and_l) l x (e ∙ ap var (eqb-true k j y))))
    (λ y. ascends-once c (search and_r) l k x y e))

-- a literal and its opposite differ
pub opp-differs : (l : ℕ) → opposite l ≡ l → ⊥
opp-differs l e = go (odd l) (sym (odd-opp l) ∙ ap odd e)
  where
    go : (s : Bool) → not s ≡ s → ⊥
    go true h = false≢true h
    go false h = true≢false h

pub once-opp : (c : List ℕ) → ascends c ≡ true → (l : ℕ) → has l c ≡ true → has (opposite l) c ≡ false
once-opp c up l h = false_of (has (opposite l) c) (λ i. opp-differs l (ascends-once c up (opposite l) l i h (var-opp l)))

pub ascends-single : (c : List ℕ) → ascends c ≡ true → both_phases c ≡ false
unfolding both_phases
ascends-single c up =
    false_of (any_of (λ l. has (opposite l) c) c)
    (λ h. let w : (k : ℕ) × (has k c ≡ true) × (has (opposite k) c ≡ true) = any-witness (λ l. has (opposite l) c) c h in clash w.2 (once-opp c up w.0 w.1))
