-- What is taken out of the tables: the prefix in the one that the record names, and where a clause's literals begin.
-- Assumes nothing.
use Rattle.std.specs.Prelude.{ℕ, List, ◌∷◌, get_or, take, drop}
use Rattle.meaning.specs.WellFormed.{max_variables, max_clauses}
use Rattle.table.specs.Table.{ends_at}
use Rattle.table.specs.Lent.{named}
use Rattle.table.specs.declared.Counts.{Counts}

-- the prefix's part of the table that the record names, and as much of it as the record counts
unfoldable pub prefix_part : List ℕ → List ℕ → Counts → List ℕ
prefix_part first second c = take max_variables (named first second c)

unfoldable pub prefix_counted : List ℕ → List ℕ → Counts → List ℕ
prefix_counted first second c = take c.variables (prefix_part first second c)

-- where the literals of clause i begin: at 0, or at the end of the clause before it; 0 past all clauses
unfoldable pub start_in : List ℕ → ℕ → ℕ
start_in t i = get_or (0 ∷ take max_clauses (drop ends_at t)) i 0
