-- The occurrence index: for each literal the clauses that have it, and then the signatures of the clauses, in the idle table.
-- Assumes nothing.
use Rattle.std.specs.Prelude.{◌≡◌, ℕ, zero, suc, ◌+◌, true, cond, List, [], ◌∷◌, ◌++◌, map, length}
use Rattle.meaning.specs.Lists.{has, up_from}
use Rattle.meaning.specs.Formula.{Formula}
use Rattle.meaning.specs.WellFormed.{well_formed, fits}
use Rattle.table.specs.Table.{pad}
use Rattle.index.specs.Signs.{signed}

-- the numbers of the clauses that have the literal l, ascending, where the first clause has the number k
unfoldable pub clauses_from : ℕ → List (List ℕ) → ℕ → List ℕ
clauses_from k [] l = []
clauses_from k (c ∷ cs) l = cond (has l c) (k ∷ clauses_from (suc k) cs l) (clauses_from (suc k) cs l)

unfoldable pub clauses_with : List (List ℕ) → ℕ → List ℕ
clauses_with cs l = clauses_from 0 cs l

-- Its places ---------------------------------------------------------------------------------------------------
-- the numbers of the clauses of each literal below n, one literal after the other
unfoldable pub lists_below : List (List ℕ) → ℕ → List ℕ
lists_below cs zero = []
lists_below cs (suc n) = lists_below cs n ++ clauses_with cs n

-- where those of the literal l begin and end
abbrev pub list_start : List (List ℕ) → ℕ → ℕ
list_start cs l = length (lists_below cs l)

unfoldable pub list_end : List (List ℕ) → ℕ → ℕ
list_end cs l = list_start cs (suc l)

-- the literals are 0 to 2,047; a place for each of them, then the numbers: 11,261 places in all
abbrev pub numbers_at : ℕ
numbers_at = 2048

abbrev pub numbers_room : ℕ
numbers_room = 9213

abbrev pub placed : (ℕ → ℕ) → List ℕ → List ℕ
placed f numbers = map f (up_from 0 numbers_at) ++ numbers

unfoldable pub lists_of : List (List ℕ) → List ℕ
lists_of cs = placed (list_end cs) (pad numbers_room (lists_below cs numbers_at))

-- behind the last list come the signatures of the clauses; a clause whose place is past the end has none
unfoldable pub signs_at : List (List ℕ) → ℕ
signs_at cs = numbers_at + list_start cs numbers_at

unfoldable pub index_of : List (List ℕ) → List ℕ
index_of cs = signed (signs_at cs) cs (lists_of cs)

-- The index of a formula; of some formula.
pub record Indexes (φ : Formula) (index : List ℕ) : Type 0 where
  pub well : well_formed φ ≡ true
  pub fitting : fits φ ≡ true
  pub places : index ≡ index_of φ.clauses

pub record Indexed (index : List ℕ) : Type 0 where
  pub formula : Formula
  pub indexes : Indexes formula index
