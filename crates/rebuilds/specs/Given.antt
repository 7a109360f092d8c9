-- What a step starts from: a well formed formula in the source, the ranks of its prefix, and a target that is all zero.
-- Assumes nothing.
use Rattle.std.specs.Prelude.{◌≡◌, ℕ, true, List, length}
use Rattle.meaning.specs.Formula.{Formula}
use Rattle.meaning.specs.WellFormed.{well_formed, max_variables}
use Rattle.table.specs.Table.{table_of, empty_formula, Holds}
use Rattle.table.specs.Ranks.{ranks_of}
use Rattle.table.specs.declared.Counts.{Counts}

-- φ is there, and these are its ranks
pub record Given (φ : Formula) (source : List ℕ) (c : Counts) (ranks : List ℕ) : Type 0 where
  pub holds : Holds φ source c
  pub well : well_formed φ ≡ true
  pub ranked : ranks ≡ ranks_of φ.prefix

pub record Begun (source : List ℕ) (c : Counts) (target scratch ranks : List ℕ) : Type 0 where
  pub formula : Formula
  pub given : Given formula source c ranks
  pub empty : target ≡ table_of empty_formula
  pub room : length scratch ≡ max_variables
