-- The game meaning (document 01, "What it handles").
-- Assumes nothing.
use Rattle.std.specs.Prelude.{ℕ, Bool, true, false, ◌&&◌, ◌||◌, not, cond, List, [], ◌∷◌, eqb}
use Rattle.meaning.specs.Lists.{all_of, any_of, same}
use Rattle.meaning.specs.Formula.{Formula, var, odd}

-- a value for each variable
abbrev pub Values : Type 0
Values = ℕ → Bool

-- ρ, but with the value b for v
unfoldable pub with_value : Values → ℕ → Bool → Values
with_value ρ v b w = cond (eqb w v) b (ρ w)

unfoldable pub lit_true : Values → ℕ → Bool
lit_true ρ l = cond (odd l) (not (ρ (var l))) (ρ (var l))

unfoldable pub clause_true : List ℕ → Values → Bool
clause_true c ρ = any_of (lit_true ρ) c

unfoldable pub all_true : List (List ℕ) → Values → Bool
all_true cs ρ = all_of (λ c. clause_true c ρ) cs

-- "Leftmost variable existential: true if one of its two values makes the rest true. Universal: both must."
-- The two values of the entry q: what false gives, and what true gives.
unfoldable pub choice : ℕ → Bool → Bool → Bool
choice q a b = cond (odd q) (a && b) (a || b)

-- The game over the prefix, for anything that is judged when all variables are chosen; false is tried before true.
unfoldable pub game : List ℕ → (Values → Bool) → Values → Bool
game [] m ρ = m ρ
game (q ∷ p) m ρ = choice q (game p m (with_value ρ (var q) false)) (game p m (with_value ρ (var q) true))

-- "Empty prefix: true exactly if every clause is."
unfoldable pub truth : List ℕ → List (List ℕ) → Values → Bool
truth p cs ρ = game p (all_true cs) ρ

-- the truth of a formula all of whose variables are in the prefix
unfoldable pub is_true : Formula → Bool
is_true φ = truth φ.prefix φ.clauses (λ _. false)

-- "an empty clause, FALSE; no clause, TRUE"
unfoldable pub empty_clause : List (List ℕ) → Bool
empty_clause cs = any_of (same []) cs

unfoldable pub no_clause : List (List ℕ) → Bool
no_clause [] = true
no_clause (c ∷ cs) = false
