-- Two lent tables, of which a record names one.
-- Assumes nothing.
use Rattle.std.specs.Prelude.{ℕ, Bool, ◌&&◌, cond, List, eqb, length}
use Rattle.table.specs.Table.{table_length}
use Rattle.table.specs.declared.Counts.{Counts}

-- the one that the record names
unfoldable pub named : List ℕ → List ℕ → Counts → List ℕ
named first second c = cond c.second second first

-- both have the right length
unfoldable pub right_lengths : List ℕ → List ℕ → Bool
right_lengths first second = eqb (length first) table_length && eqb (length second) table_length
