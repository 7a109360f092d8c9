-- The order of the choice in words: lower kinds, lower indices, variables further left. Assumes nothing.
use mathlib.Core.Path.{◌≡◌, refl, sym, ◌∙◌, ap}
use Prim.Native.Nat.{ℕ, zero, suc, ◌+◌, ◌<◌, ◌≤◌}
use native.Mathlib.Omega.{arith}
use mathlib.Core.Bool.{Bool, true, false, ◌&&◌, ◌||◌, not, cond, false≢true}
use mathlib.Core.List.{List, [], ◌∷◌, map}
use lib.Dec.{eqb, ltb}
use lib.ListN.{length}
use borrow.Author.Tests.{lt-ltb, le-ltb}
use Rattle.meaning.specs.Lists.{any_of, up_from}
use Rattle.meaning.specs.Formula.{Formula, var, is_var, mentions, right_of}
use Rattle.meaning.specs.WellFormed.{good_prefix}
use Rattle.rules.specs.Entry.{Kind, code}
use Rattle.rules.specs.Choice.{indices, variables, kinds}
use Rattle.meaning.proofs.Basics.{by_cases, false_of, eqb-true, eqb-false, clash}
use Rattle.rules.proofs.Before.{before, sooner}
use Rattle.meaning.proofs.Prefix.{right-mentioned, good-out, good-tail}
use Rattle.rules.proofs.Entries.{code-range}

up-before : (s n x y : ℕ) → s ≤ x → x < s + n → s ≤ y → before (up_from s n) x y ≡ ltb x y
unfolding up_from before
up-before s zero x y h k l = absurd (let z : x < s + 0 = k in omega arith)
up-before s (suc n) x y h k l =
    by_cases (eqb s y)
    (λ e. rw e (sym (le-ltb x y (let i : s ≡ y = eqb-true s y e in omega arith))))
    (λ e. let j : (s ≡ y → ⊥) = eqb-false s y e in rw e (by_cases (eqb s x)
    (λ d. rw d (sym (lt-ltb x y (let i : s ≡ x = eqb-true s x d in omega arith))))
    (λ d. rw d (up-before (suc s) n x y (let i : (s ≡ x → ⊥) = eqb-false s x d in omega arith) (omega arith) (omega arith)))))

-- a clause of the formula comes before another exactly if its index is lower
pub index-order : (φ : Formula) (x y : ℕ) → x < length φ.clauses → before (indices φ) x y ≡ ltb x y
unfolding indices
index-order φ x y h = up-before 0 _ x y (omega arith) (omega arith) (omega arith)

codes : map code kinds ≡ up_from 1 7
unfolding code up_from
codes = refl

-- a kind is tried sooner exactly if its number is lower
pub kind-order : (j k : Kind) → sooner j k ≡ ltb (code j) (code k)
unfolding sooner
kind-order j k = ap (λ (l : List ℕ). before l (code j) (code k)) codes ∙ up-before 1 7 (code j) (code k) (code-range j).0 (omega (arith, (code-range j).1)) (code-range k).0

-- a variable comes before another of the prefix exactly if that one stands to its right
pub left-order : (p : List ℕ) (x y : ℕ) → good_prefix p ≡ true → mentions p y ≡ true → before (map var p) x y ≡ mentions (right_of x p) y
unfolding before mentions any_of right_of is_var
left-order [] x y g h = absurd (false≢true h)
left-order (q ∷ p) x y g h = go (eqb (var q) y) (eqb (var q) x) refl h (left-order p x y (good-tail q p g))
  where
    once : mentions p (var q) ≡ false
    once = good-out q p g

    go : (s t : Bool) → eqb (var q) y ≡ s → (s || mentions p y) ≡ true → (mentions p y ≡ true → before (map var p) x y ≡ mentions (right_of x p) y)
        → (not s && (t || before (map var p) x y)) ≡ mentions (cond t p (right_of x p)) y
    go true true e i ih = sym (ap (mentions p) (sym (eqb-true (var q) y e)) ∙ once)
    go true false e i ih = sym (false_of _ (λ j. clash (ap (mentions p) (eqb-true (var q) y e) ∙ right-mentioned x p y j) once))
    go false true e i ih = sym i
    go false false e i ih = ih i

pub variable-order : (φ : Formula) (x y : ℕ) → good_prefix φ.prefix ≡ true → mentions φ.prefix y ≡ true
    → before (variables φ) x y ≡ mentions (right_of x φ.prefix) y
unfolding variables
variable-order φ x y g h = left-order φ.prefix x y g h
