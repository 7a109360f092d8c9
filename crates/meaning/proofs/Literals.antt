-- Laws of literals. Assumes nothing.
use mathlib.Core.Path.{◌≡◌, refl, sym, ◌∙◌, ap}
use Prim.Native.Nat.{ℕ, ◌+◌, ◌*◌, ◌%◌}
use mathlib.Core.Bool.{Bool, true, false, not, cond}
use native.Mathlib.Omega.{arith}
use lib.Dec.{eqb}
use Rattle.meaning.specs.Formula.{var, odd, opposite, plain, negated}
use Rattle.meaning.specs.Game.{Values, with_value, lit_true}
use Rattle.meaning.proofs.Basics.{by_cases, eqb-true, eqb-eq, eqb-ne, eqb-false}
use Rattle.meaning.proofs.Game.{with-same, with-other}

pub odd_is : (l : ℕ) → odd l ≡ true → l % 2 ≡ 1
unfolding odd
odd_is l h = eqb-true (l % 2) 1 h

pub even_is : (l : ℕ) → odd l ≡ false → l % 2 ≡ 0
unfolding odd
even_is l h = let n : (l % 2 ≡ 1 → ⊥) = eqb-false (l % 2) 1 h in omega arith

pub odd-of : (l : ℕ) → l % 2 ≡ 1 → odd l ≡ true
unfolding odd
odd-of l h = eqb-eq h

pub even-of : (l : ℕ) → l % 2 ≡ 0 → odd l ≡ false
unfolding odd
even-of l h = eqb-ne (l % 2) 1 (λ e. omega arith)

pub var-plain : (v : ℕ) → var (2 * v) ≡ v
unfolding var
var-plain v = omega arith

pub var-negated : (v : ℕ) → var (2 * v + 1) ≡ v
unfolding var
var-negated v = omega arith

pub odd-plain : (v : ℕ) → odd (2 * v) ≡ false
odd-plain v = even-of (2 * v) (omega arith)

pub odd-negated : (v : ℕ) → odd (2 * v + 1) ≡ true
odd-negated v = odd-of (2 * v + 1) (omega arith)

-- a literal is told by its variable and its phase
pub plain-is : (l : ℕ) → odd l ≡ false → l ≡ 2 * var l
unfolding var
plain-is l h = let e : l % 2 ≡ 0 = even_is l h in omega arith

pub negated-is : (l : ℕ) → odd l ≡ true → l ≡ 2 * var l + 1
unfolding var
negated-is l h = let e : l % 2 ≡ 1 = odd_is l h in omega arith

pub lit-path : (l k : ℕ) → var l ≡ var k → odd l ≡ odd k → l ≡ k
lit-path l k e o =
    by_cases (odd l)
    (λ h. negated-is l h ∙ (ap (λ (v : ℕ). 2 * v + 1) e ∙ sym (negated-is k (sym o ∙ h))))
    (λ h. plain-is l h ∙ (ap (λ (v : ℕ). 2 * v) e ∙ sym (plain-is k (sym o ∙ h))))

pub opp-odd : (l : ℕ) → odd l ≡ true → opposite l ≡ 2 * var l
unfolding opposite var
opp-odd l h = rw h (let e : l % 2 ≡ 1 = odd_is l h in omega arith)

pub opp-even : (l : ℕ) → odd l ≡ false → opposite l ≡ 2 * var l + 1
unfolding opposite var
opp-even l h = rw h (let e : l % 2 ≡ 0 = even_is l h in omega arith)

pub var-opp : (l : ℕ) → var (opposite l) ≡ var l
var-opp l =
    by_cases (odd l)
    (λ h. ap var (opp-odd l h) ∙ var-plain (var l))
    (λ h. ap var (opp-even l h) ∙ var-negated (var l))

pub odd-opp : (l : ℕ) → odd (opposite l) ≡ not (odd l)
odd-opp l =
    by_cases (odd l)
    (λ h. ap odd (opp-odd l h) ∙ (odd-plain (var l) ∙ sym (ap not h)))
    (λ h. ap odd (opp-even l h) ∙ (odd-negated (var l) ∙ sym (ap not h)))

not-not : (b : Bool) → not (not b) ≡ b
not-not true = refl
not-not false = refl

pub opp-opp : (l : ℕ) → opposite (opposite l) ≡ l
opp-opp l = lit-path (opposite (opposite l)) l (var-opp (opposite l) ∙ var-opp l) (odd-opp (opposite l) ∙ (ap not (odd-opp l) ∙ not-not (odd l)))

pub lit-opp : (ρ : Values) (l : ℕ) → lit_true ρ (opposite l) ≡ not (lit_true ρ l)
unfolding lit_true
lit-opp ρ l = rw (odd-opp l, var-opp l) (go (odd l) (ρ (var l)))
  where
    go : (s x : Bool) → cond (not s) (not x) x ≡ not (cond s (not x) x)
    go true x = sym (not-not x)
    go false x = refl

-- what a value of its variable makes of a literal: true, where the value is that of the phase
pub lit-with : (ρ : Values) (l : ℕ) (b : Bool) → lit_true (with_value ρ (var l) b) l ≡ cond (odd l) (not b) b
unfolding lit_true
lit-with ρ l b = rw (with-same ρ (var l) b)

pub lit-with-other : (ρ : Values) (v l : ℕ) (b : Bool) → eqb (var l) v ≡ false → lit_true (with_value ρ v b) l ≡ lit_true ρ l
unfolding lit_true
lit-with-other ρ v l b h = rw (with-other ρ v b (var l) h)

-- The two literals of a variable, by name ---------------------------------------------------------------------
pub opp-plain : (a : ℕ) → opposite (plain a) ≡ negated a
unfolding plain negated
opp-plain a = opp-even (2 * a) (odd-plain a) ∙ ap (λ (v : ℕ). 2 * v + 1) (var-plain a)

pub opp-negated : (a : ℕ) → opposite (negated a) ≡ plain a
unfolding plain negated
opp-negated a = opp-odd (2 * a + 1) (odd-negated a) ∙ ap (λ (v : ℕ). 2 * v) (var-negated a)

pub var-of-plain : (a : ℕ) → var (plain a) ≡ a
unfolding plain
var-of-plain a = var-plain a

pub odd-of-plain : (a : ℕ) → odd (plain a) ≡ false
unfolding plain
odd-of-plain a = odd-plain a

pub var-of-negated : (a : ℕ) → var (negated a) ≡ a
unfolding negated
var-of-negated a = var-negated a

pub odd-of-negated : (a : ℕ) → odd (negated a) ≡ true
unfolding negated
odd-of-negated a = odd-negated a
