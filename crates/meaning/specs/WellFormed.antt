-- Well formed formulas, limits and weight (document 01, "Table and limits", "Tidy" and "The run"). The layout of the table is
-- not spoken of here.
-- Assumes nothing.
use Rattle.std.specs.Prelude.{ℕ, ◌+◌, Bool, true, ◌&&◌, not, List, [], ◌∷◌, leb, ltb, length}
use Rattle.meaning.specs.Lists.{all_of, any_of, keep_if, same}
use Rattle.meaning.specs.Formula.{Formula, var, odd, mentions}
use Rattle.meaning.specs.Tidy.{stays}

-- "Each clause ascends by these numbers", and "it holds no variable twice": its variables ascend
unfoldable pub ascends : List ℕ → Bool
ascends [] = true
ascends (l ∷ c) = all_of (λ k. ltb (var l) (var k)) c && ascends c

-- its variables are all in the prefix
unfoldable pub bound : List ℕ → List ℕ → Bool
bound p c = all_of (λ l. mentions p (var l)) c

-- "every universal in it has an existential of the clause to its right"
unfoldable pub reduced : List ℕ → List ℕ → Bool
reduced p c = all_of (stays p c) c

-- "A clause is tidy if it holds no variable twice and every universal in it has an existential of the clause to its right."
unfoldable pub tidy_clause : List ℕ → List ℕ → Bool
tidy_clause p c = ascends c && (bound p c && reduced p c)

-- "its variables stand once in the prefix", and none is 0
unfoldable pub good_prefix : List ℕ → Bool
good_prefix [] = true
good_prefix (q ∷ p) = ltb 0 (var q) && (not (mentions p (var q)) && good_prefix p)

unfoldable pub distinct : List (List ℕ) → Bool
distinct [] = true
distinct (c ∷ cs) = not (any_of (same c) cs) && distinct cs

-- "A formula is well formed if its clauses are tidy and distinct, its variables stand once in the prefix, and the layout
-- holds. An empty clause is allowed."
unfoldable pub well_formed : Formula → Bool
well_formed φ = good_prefix φ.prefix && (all_of (tidy_clause φ.prefix) φ.clauses && distinct φ.clauses)

-- Limits and weight -----------------------------------------------------------------------------------------
-- "At most 1,023 variables in the prefix, numbers 1 to 1,023; 2,047 clauses; 8,191 literals; text 65,536 bytes."
abbrev pub max_variables : ℕ
max_variables = 1023

abbrev pub max_clauses : ℕ
max_clauses = 2047

abbrev pub max_literals : ℕ
max_literals = 8191

abbrev pub max_text : ℕ
max_text = 65536

-- the literals of all clauses, counted
unfoldable pub literals : List (List ℕ) → ℕ
literals [] = 0
literals (c ∷ cs) = length c + literals cs

-- the formula passes no limit
unfoldable pub fits : Formula → Bool
fits φ =
    (leb (length φ.prefix) max_variables && all_of (λ q. leb (var q) max_variables) φ.prefix)
    && (leb (length φ.clauses) max_clauses && leb (literals φ.clauses) max_literals)

-- "Weight = variables + clauses + literals"
unfoldable pub weight : Formula → ℕ
weight φ = length φ.prefix + (length φ.clauses + literals φ.clauses)

-- the number of universals of a prefix
unfoldable pub universals : List ℕ → ℕ
universals p = length (keep_if odd p)
