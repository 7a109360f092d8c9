-- Steps that look at one or two clauses of a table: where a clause is absent, and what is read where it is there.
-- Assumes nothing.
use Prim.Native.Nat.{ℕ, ◌≤◌, ◌<◌}
use mathlib.Core.Path.{◌≡◌, refl, sym, ap}
use mathlib.Core.Bool.{Bool, true, false}
use mathlib.Core.List.{List, [], ◌∷◌}
use lib.ListN.{length, get_or, get_or-eq_default}
use lib.Dec.{eqb}
use borrow.Author.Tests.{lt-ltb, le-ltb}
use native.Mathlib.Omega.{arith}
use Rattle.meaning.specs.Lists.{part_of}
use Rattle.meaning.specs.Formula.{Formula}
use Rattle.rules.specs.Simplify.{clause_at, is_clause, unit_clause, unit_permitted, subsume_permitted, opposite_pair, equality_permitted}
use Rattle.table.specs.Table.{Holds}
use Rattle.table.specs.declared.Counts.{Counts}
use Rattle.meaning.proofs.Basics.{eqb-eq, eqb-ne}
use Rattle.table.proofs.HoldLaws.{count-clauses}

one-literal : (x : List ℕ) → eqb (length x) 1 ≡ unit_clause x
unfolding unit_clause
one-literal [] = refl
one-literal (l ∷ []) = refl
one-literal (l ∷ k ∷ x) = eqb-ne (length (l ∷ k ∷ x)) 1 (λ e. omega arith)

module _ {φ : Formula} {t : List ℕ} {c : Counts} (h : Holds φ t c) where
  pub absent : (a : ℕ) → c.clauses ≤ a → is_clause φ.clauses a ≡ false
  unfolding is_clause
  absent a k = le-ltb a (length φ.clauses) (omega (arith, count-clauses h))

  pub present : (a : ℕ) → a < c.clauses → is_clause φ.clauses a ≡ true
  unfolding is_clause
  present a k = lt-ltb a (length φ.clauses) (omega (arith, count-clauses h))

  -- step 1
  pub unit-absent : (a : ℕ) → c.clauses ≤ a → false ≡ unit_permitted φ a
  unfolding unit_permitted
  unit-absent a k = rw (absent a k)

  pub unit-is : (a : ℕ) → a < c.clauses → (x : List ℕ) → x ≡ get_or φ.clauses a [] → eqb (length x) 1 ≡ unit_permitted φ a
  unfolding unit_permitted clause_at
  unit-is a k x e = rw (present a k, ← e) (one-literal x)

  -- a literal of a clause
  module _ (a k : ℕ) where
    pub literal-absent : c.clauses ≤ a → 0 ≡ get_or (clause_at φ.clauses a) k 0
    unfolding clause_at
    literal-absent n = sym (ap (λ (l : List ℕ). get_or l k 0) (get_or-eq_default φ.clauses [] {n = a} (omega (arith, count-clauses h))))

    pub literal-is : (x : List ℕ) → x ≡ get_or φ.clauses a [] → get_or x k 0 ≡ get_or (clause_at φ.clauses a) k 0
    unfolding clause_at
    literal-is x e = rw (← e)

  module _ (a b : ℕ) where
    -- step 3
    pub subsume-no-a : c.clauses ≤ a → false ≡ subsume_permitted φ a b
    unfolding subsume_permitted
    subsume-no-a k = rw (absent a k)

    pub subsume-no-b : a < c.clauses → c.clauses ≤ b → false ≡ subsume_permitted φ a b
    unfolding subsume_permitted
    subsume-no-b k n = rw (present a k, absent b n)

    pub subsume-same : a < c.clauses → b < c.clauses → a ≡ b → false ≡ subsume_permitted φ a b
    unfolding subsume_permitted
    subsume-same k n e = rw (present a k, present b n, eqb-eq e)

    pub subsume-is : a < c.clauses → b < c.clauses → (a ≡ b → ⊥) → (x y : List ℕ) → x ≡ get_or φ.clauses a [] → y ≡ get_or φ.clauses b [] → (r : Bool) → r ≡ part_of x y → r ≡ subsume_permitted φ a b
    unfolding subsume_permitted clause_at
    subsume-is k n d x y e f r q = rw (present a k, present b n, eqb-ne a b d, ← e, ← f) q

    -- step 5
    pub equal-order : b ≤ a → false ≡ equality_permitted φ a b
    unfolding equality_permitted
    equal-order k = rw (le-ltb a b k)

    pub equal-absent : a < b → c.clauses ≤ b → false ≡ equality_permitted φ a b
    unfolding equality_permitted
    equal-absent k n = rw (lt-ltb a b k, absent b n)

    pub equal_is : a < b → b < c.clauses → (x y : List ℕ) → x ≡ get_or φ.clauses a [] → y ≡ get_or φ.clauses b [] → (r : Bool) → r ≡ opposite_pair x y → r ≡ equality_permitted φ a b
    unfolding equality_permitted clause_at
    equal_is k n x y e f r q = rw (lt-ltb a b k, present b n, ← e, ← f) q
