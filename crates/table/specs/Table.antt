-- The work table of a formula, and the formula in a work table (document 01, "Table and limits").
-- Assumes nothing.
use Rattle.std.specs.Prelude.{◌≡◌, ℕ, ◌+◌, ◌-◌, Bool, true, List, [], ◌∷◌, ◌++◌, length, take, drop, replicate}
use Rattle.meaning.specs.Formula.{Formula}
use Rattle.meaning.specs.Tidy.{kept, tidy, add_tidied}
use Rattle.meaning.specs.WellFormed.{literals, fits, max_variables, max_clauses, max_literals}
use Rattle.table.specs.declared.Counts.{Counts}

-- "A work table is 11,261 sixteen-bit numbers: 0..1022 prefix, 1023..3069 clause ends, 3070..11260 literals."
abbrev pub ends_at : ℕ
ends_at = 1023

abbrev pub literals_at : ℕ
literals_at = 3070

abbrev pub table_length : ℕ
table_length = 11261

-- the literals of all clauses, one after the other
unfoldable pub all_literals : List (List ℕ) → List ℕ
all_literals [] = []
all_literals (c ∷ cs) = c ++ all_literals cs

-- how many literals stand before clause i
unfoldable pub start_of : List (List ℕ) → ℕ → ℕ
start_of cs i = literals (take i cs)

-- "A clause end counts the literals up to there": where k literals stand before the first clause
unfoldable pub ends_from : ℕ → List (List ℕ) → List ℕ
ends_from k [] = []
ends_from k (c ∷ cs) = (k + length c) ∷ ends_from (k + length c) cs

-- "Unused places are zero."
unfoldable pub pad : ℕ → List ℕ → List ℕ
pad n l = l ++ replicate (n - length l) 0

unfoldable pub table_of : Formula → List ℕ
table_of φ = pad max_variables φ.prefix ++ (pad max_clauses (ends_from 0 φ.clauses) ++ pad max_literals (all_literals φ.clauses))

-- "The counts of variables, clauses and literals, and which of two lent tables holds the formula, are a small record"
unfoldable pub counts_of : Formula → Bool → Counts
counts_of φ second =
    record { variables = length φ.prefix; clauses = length φ.clauses; literals = literals φ.clauses; second = second }

-- the counts with a clause of n literals more, and with a variable more
abbrev pub clause_more : Counts → ℕ → Counts
clause_more c n = record { variables = c.variables; clauses = c.clauses + 1; literals = c.literals + n; second = c.second }

abbrev pub variable_more : Counts → Counts
variable_more c = record { variables = c.variables + 1; clauses = c.clauses; literals = c.literals; second = c.second }

-- The formula in a table ---------------------------------------------------------------------------------------
-- clauses from their ends: es are the ends of those that begin at k in the literals l
unfoldable pub cut : ℕ → List ℕ → List ℕ → List (List ℕ)
cut k [] l = []
cut k (e ∷ es) l = take (e - k) (drop k l) ∷ cut e es l

unfoldable pub decode : List ℕ → Counts → Formula
decode t c =
    record { prefix = take c.variables t; clauses = cut 0 (take c.clauses (drop ends_at t)) (drop literals_at t) }

-- The table t with the counts c holds φ; it holds some formula.
pub record Holds (φ : Formula) (t : List ℕ) (c : Counts) : Type 0 where
  pub table : t ≡ table_of φ
  pub counts : c ≡ counts_of φ c.second
  pub fitting : fits φ ≡ true

pub record Held (t : List ℕ) (c : Counts) : Type 0 where
  pub formula : Formula
  pub holds : Holds formula t c

-- What may become of it ---------------------------------------------------------------------------------------
-- no variable, no clause
unfoldable pub empty_formula : Formula
empty_formula = record { prefix = []; clauses = [] }

-- one clause more; the same, unless there is an equal one; a raw clause more, tidied; one variable more, at the right end
unfoldable pub with_clause : Formula → List ℕ → Formula
with_clause φ c = record { prefix = φ.prefix; clauses = φ.clauses ++ (c ∷ []) }

unfoldable pub with_new_clause : Formula → List ℕ → Formula
with_new_clause φ c = record { prefix = φ.prefix; clauses = add_tidied φ.clauses (kept c) }

unfoldable pub with_raw : Formula → List ℕ → Formula
with_raw φ raw = record { prefix = φ.prefix; clauses = add_tidied φ.clauses (tidy φ.prefix raw) }

unfoldable pub with_variable : Formula → ℕ → Formula
with_variable φ q = record { prefix = φ.prefix ++ (q ∷ []); clauses = φ.clauses }
