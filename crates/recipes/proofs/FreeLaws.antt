-- Clauses without a variable: they have neither of its literals.
-- Assumes nothing.
use Prim.Native.Nat.{ℕ, ◌/◌}
use mathlib.Core.Path.{◌≡◌, refl, sym, ap, ◌∙◌}
use mathlib.Core.Bool.{Bool, true, false, ◌&&◌, ◌||◌, not}
use mathlib.Core.List.{List, [], ◌∷◌}
use lib.Dec.{eqb}
use Rattle.meaning.specs.Lists.{any_of, has}
use Rattle.meaning.specs.Formula.{var, odd, opposite, plain, negated, is_var, mentions}
use Rattle.recipes.specs.Recipe.{neither}
use Rattle.meaning.proofs.Basics.{by_cases}
use Rattle.meaning.proofs.Literals.{plain-is, opp-odd, opp-opp, opp-plain}
use Rattle.meaning.proofs.Prefix.{eqb-plain, eqb-negated}

pub free-is : (a : ℕ) (c : List ℕ) → neither (plain a) c ≡ not (mentions c a)
unfolding neither mentions is_var any_of has plain negated
free-is a c = rw (opp-plain a) (go c)
  where
    one : (k : ℕ) (x y z : Bool) → eqb (plain a) k ≡ (eqb (var k) a && not (odd k)) → eqb (negated a) k ≡ (eqb (var k) a && odd k) → (not x && not y) ≡ not z → (not (eqb (plain a) k || x) && not (eqb (negated a) k || y)) ≡ not (eqb (var k) a || z)
    one k x y z p q ih = rw (p, q) (turn (eqb (var k) a) (odd k) x y z ih)
      where
        turn : (v o x y z : Bool) → (not x && not y) ≡ not z → (not ((v && not o) || x) && not ((v && o) || y)) ≡ not (v || z)
        turn true true true y z ih = refl
        turn true true false y z ih = refl
        turn true false x y z ih = refl
        turn false o x y z ih = ih

    go : (c : List ℕ) → (not (has (plain a) c) && not (has (negated a) c)) ≡ not (any_of (λ q. eqb (var q) a) c)
    go [] = refl
    go (k ∷ c) = one k (has (plain a) c) (has (negated a) c) (any_of (λ q. eqb (var q) a) c) (eqb-plain a k) (eqb-negated a k) (go c)

-- of either phase
pub free-of : (l : ℕ) (c : List ℕ) → not (mentions c (l / 2)) ≡ neither l c
unfolding plain var
free-of l c =
    by_cases (odd l)
    (λ o. sym (turned ∙ ap (λ (x : ℕ). neither x c) (opp-odd l o) ∙ free-is (var l) c))
    (λ o. sym (ap (λ (x : ℕ). neither x c) (plain-is l o) ∙ free-is (var l) c))
  where
    swap : (x y : Bool) → (x && y) ≡ (y && x)
    swap true true = refl
    swap true false = refl
    swap false true = refl
    swap false false = refl

    turned : neither l c ≡ neither (opposite l) c
    turned = unfold neither in swap (not (has l c)) (not (has (opposite l) c)) ∙ ap (λ (x : ℕ). not (has (opposite l) c) && not (has x c)) (sym (opp-opp l))
