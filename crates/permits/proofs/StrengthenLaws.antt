-- Step 4, strengthen: the loops over a clause, and the first literal that strengthens the other.
-- Assumes nothing.
use Prim.Native.Nat.{ℕ, ◌/◌, ◌≤◌, ◌<◌}
use mathlib.Core.Path.{◌≡◌, refl, ap}
use mathlib.Core.Bool.{Bool, true, false, ◌&&◌, ◌||◌, not, cond}
use mathlib.Core.List.{List, [], ◌∷◌}
use lib.ListN.{get_or}
use lib.Dec.{eqb}
use Rattle.std.specs.List.{find}
use Rattle.meaning.specs.Lists.{any_of, all_of, keep_if, has, part_of, without, first_passing}
use Rattle.meaning.specs.Formula.{Formula, var, opposite, existential}
use Rattle.table.specs.Table.{Holds}
use Rattle.table.specs.declared.Counts.{Counts}
use Rattle.rules.specs.Simplify.{clause_at, strengthens, strengthen_permitted, strengthen_lit}
use Rattle.permits.specs.Choices.{strengthening_of, first_by, is_or_in}
use Rattle.std.specs.Prelude.{Option, Some, None}
use Rattle.meaning.proofs.Basics.{eqb-eq, eqb-ne}
use Rattle.permits.proofs.AndLaws.{and_second, and_none}
use Rattle.permits.proofs.ClauseLaws.{absent, present}

pub or_same : (l k : ℕ) (y : List ℕ) → l ≡ k → true ≡ is_or_in l y k
unfolding is_or_in
or_same l k y e = rw (eqb-eq e)

pub or-in : (l k : ℕ) (y : List ℕ) (r : Bool) → (l ≡ k → ⊥) → r ≡ has k y → r ≡ is_or_in l y k
unfolding is_or_in
or-in l k y r h e = rw (eqb-ne l k h) e

-- all literals but l
pub others-all : (l : ℕ) (x y : List ℕ) → all_of (is_or_in l y) x ≡ part_of (without l x) y
unfolding is_or_in part_of without all_of keep_if
others-all l [] y = refl
others-all l (k ∷ x) y = go (eqb l k) (others-all l x y)
  where
    go : (b : Bool) → all_of (is_or_in l y) x ≡ part_of (without l x) y → ((b || has k y) && all_of (is_or_in l y) x) ≡ part_of (cond (not b) (k ∷ without l x) (without l x)) y
    go true ih = ih
    go false ih = ap (λ (t : Bool). has k y && t) ih

-- one literal
module _ (p x y : List ℕ) (l : ℕ) (e : Bool) (is : e ≡ existential p (l / 2)) where
  pub strengthens-none : e ≡ false → false ≡ strengthens p x y l
  unfolding strengthens var
  strengthens-none t = and_none (existential p (l / 2)) (has (opposite l) y && part_of (without l x) y) e is t

  module _ (t : e ≡ true) (o : ℕ) (opp : o ≡ opposite l) (h : Bool) (in-y : h ≡ has o y) where
    rest : (r : Bool) → r ≡ (has o y && part_of (without l x) y) → r ≡ strengthens p x y l
    unfolding strengthens var
    rest r q = and_second (existential p (l / 2)) (has (opposite l) y && part_of (without l x) y) e r is t (rw (← opp) q)

    pub strengthens-not : h ≡ false → false ≡ strengthens p x y l
    strengthens-not n = rest false (and_none (has o y) (part_of (without l x) y) h in-y n)

    pub strengthens-is : h ≡ true → (r : Bool) → r ≡ part_of (without l x) y → r ≡ strengthens p x y l
    strengthens-is n r q = rest r (and_second (has o y) (part_of (without l x) y) h r in-y n q)

-- the first
pub first-find : (f : ℕ → Bool) (s : List ℕ) → find f s ≡ first_by f s
unfolding first_by any_of first_passing
first-find f [] = refl
first-find f (x ∷ s) = go (f x) (first-find f s)
  where
    go : (b : Bool) → find f s ≡ cond (any_of f s) (Some (first_passing f s)) None → cond b (Some x) (find f s) ≡ cond (b || any_of f s) (Some (cond b x (first_passing f s))) None
    go true ih = refl
    go false ih = ih

module _ {φ : Formula} {t : List ℕ} {c : Counts} (h : Holds φ t c) (a b : ℕ) where
  pub strengthen-no-a : c.clauses ≤ a → None ≡ strengthening_of φ a b
  unfolding strengthening_of strengthen_permitted
  strengthen-no-a k = rw (absent h a k)

  pub strengthen-no-b : a < c.clauses → c.clauses ≤ b → None ≡ strengthening_of φ a b
  unfolding strengthening_of strengthen_permitted
  strengthen-no-b k n = rw (present h a k, absent h b n)

  pub strengthen-is : a < c.clauses → b < c.clauses → (x y : List ℕ) → x ≡ get_or φ.clauses a [] → y ≡ get_or φ.clauses b [] → (r : Option ℕ) → r ≡ first_by (strengthens φ.prefix x y) x → r ≡ strengthening_of φ a b
  unfolding strengthening_of strengthen_permitted strengthen_lit clause_at first_by
  strengthen-is k n x y e f r q = rw (present h a k, present h b n, ← e, ← f) q
