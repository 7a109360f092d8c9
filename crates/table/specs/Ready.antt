-- A table on its way: what reading and the steps keep while they add to a table.
-- Assumes nothing.
use Rattle.std.specs.Prelude.{◌≡◌, ℕ, true, List}
use Rattle.meaning.specs.Formula.{Formula}
use Rattle.meaning.specs.WellFormed.{good_prefix}
use Rattle.table.specs.Table.{Holds}
use Rattle.table.specs.Ranks.{ranks_of}
use Rattle.table.specs.declared.Counts.{Counts}

-- the table holds some formula over a good prefix, and the ranks are those of the prefix
pub record Ready (t ranks : List ℕ) (c : Counts) : Type 0 where
  pub formula : Formula
  pub holds : Holds formula t c
  pub good : good_prefix formula.prefix ≡ true
  pub ranked : ranks ≡ ranks_of formula.prefix
