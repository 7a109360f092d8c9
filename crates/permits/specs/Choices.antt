-- What a permitted step takes from its formula: literals, in steps 2, 4 and 5.
-- Assumes nothing.
use Rattle.std.specs.Prelude.{ℕ, Bool, ◌||◌, cond, List, eqb, get_or, Option, Some, None}
use Rattle.meaning.specs.Lists.{any_of, has, first_passing}
use Rattle.meaning.specs.Formula.{Formula, var, opposite, mentions, universal, right_of}
use Rattle.rules.specs.Simplify.{clause_at, pure_lit, strengthen_permitted, strengthen_lit}
use Rattle.permits.specs.declared.Replacement.{Replacement}

-- "Existential in one phase only: that literal becomes true. Universal in one phase only: that literal becomes false."
unfoldable pub pure_true : Formula → ℕ → ℕ
pure_true φ a = cond (universal φ.prefix a) (opposite (pure_lit φ.clauses a)) (pure_lit φ.clauses a)

-- the literal by which clause b is strengthened, where that is permitted; the first of a clause that passes a test
unfoldable pub strengthening_of : Formula → ℕ → ℕ → Option ℕ
strengthening_of φ a b = cond (strengthen_permitted φ a b) (Some (strengthen_lit φ a b)) None

unfoldable pub first_by : (ℕ → Bool) → List ℕ → Option ℕ
first_by f c = cond (any_of f c) (Some (first_passing f c)) None

-- k is l, or in the clause d
unfoldable pub is_or_in : ℕ → List ℕ → ℕ → Bool
is_or_in l d k = eqb l k || has k d

-- "The right-hand variable is replaced by what the pair says it equals": of the literals k and l of the one clause
unfoldable pub replacing : List ℕ → ℕ → ℕ → Replacement
replacing p k l =
    cond (mentions (right_of (var k) p) (var l)) (record { old = l; new = opposite k }) (record { old = k; new = opposite l })

unfoldable pub replacement_of : Formula → ℕ → Replacement
replacement_of φ a = replacing φ.prefix (get_or (clause_at φ.clauses a) 0 0) (get_or (clause_at φ.clauses a) 1 0)
