-- The size and the weight of the result of step 7, as sums over the clauses (document 01, "Steps", 7, and "The run"). Where no
-- clause is a part of another these are the result's (proofs/ExpandWeight.antt).
-- Assumes nothing.
use Rattle.std.specs.Prelude.{ℕ, ◌+◌, ◌-◌, ◌*◌, ◌≤◌, Bool, ◌&&◌, cond, List, [], ◌∷◌, ltb, leb, length}
use Rattle.meaning.specs.Lists.{any_of}
use Rattle.meaning.specs.Formula.{var, mentions, existential}
use Rattle.meaning.specs.WellFormed.{max_variables, max_clauses, max_literals}
use Rattle.table.specs.declared.Counts.{Counts}
use Rattle.permits.specs.Places.{place_of}
use Rattle.growth.specs.declared.Weighed.{Weighed}
use Rattle.growth.specs.declared.Weighed.TheVariants.{Over, Fitting, Wide}
use Rattle.growth.specs.declared.Share.{Share}
use Rattle.growth.specs.declared.Share.TheVariants.{Stays, Loses, Doubles}
use Rattle.growth.specs.declared.Size.{Size}

-- "the clauses with a variable right of u that is existential", where u has the place n
unfoldable pub inner_lit : List ℕ → ℕ → ℕ → Bool
inner_lit p n l = existential p (var l) && ltb n (place_of p (var l))

unfoldable pub reaches : List ℕ → ℕ → List ℕ → Bool
reaches p n c = any_of (inner_lit p n) c

-- "First the other clauses; then f with u false; then f with u true": one of the others stays; one of f with u is in one of the
-- two parts, without u; one of f without u is in both
unfoldable pub share_of : List ℕ → ℕ → ℕ → List ℕ → Share
share_of p n a c = cond (reaches p n c) (cond (mentions c a) Loses Doubles) Stays

unfoldable pub clauses_of : Share → ℕ
clauses_of Stays = 1
clauses_of Loses = 1
clauses_of Doubles = 2

-- of a clause of m literals: so many are left
unfoldable pub literals_of : Share → ℕ → ℕ
literals_of Stays m = m
literals_of Loses m = m - 1
literals_of Doubles m = 2 * m

-- The result -----------------------------------------------------------------------------------------------------
unfoldable pub expanded_clauses : List ℕ → ℕ → ℕ → List (List ℕ) → ℕ
expanded_clauses p n a [] = 0
expanded_clauses p n a (c ∷ cs) = clauses_of (share_of p n a c) + expanded_clauses p n a cs

unfoldable pub expanded_literals : List ℕ → ℕ → ℕ → List (List ℕ) → ℕ
expanded_literals p n a [] = 0
expanded_literals p n a (c ∷ cs) = literals_of (share_of p n a c) (length c) + expanded_literals p n a cs

unfoldable pub expanded_size : List ℕ → ℕ → ℕ → List (List ℕ) → Size
expanded_size p n a cs = record { clauses = expanded_clauses p n a cs; literals = expanded_literals p n a cs }

-- a size whose sums are small numbers
pub record Small (s : Size) : Type 0 where
  pub clauses : s.clauses ≤ 2 * max_clauses
  pub literals : s.literals ≤ 2 * max_literals * max_clauses

-- Against a bound, by the counts of the result -------------------------------------------------------------------------
unfoldable pub weight_of : Counts → ℕ
weight_of d = d.variables + (d.clauses + d.literals)

-- "Copies take the smallest numbers not in the prefix before the step": they are in range exactly if they and the prefix before the step,
-- which had one variable more, are so many
unfoldable pub counts_fit : Counts → Bool
counts_fit d = ltb d.variables max_variables && (leb d.clauses max_clauses && leb d.literals max_literals)

unfoldable pub weighed_counts : ℕ → Counts → Weighed
weighed_counts below d = cond (ltb (weight_of d) below) (cond (counts_fit d) (Fitting (weight_of d)) Wide) Over
