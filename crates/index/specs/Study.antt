-- What is at hand while a step is chosen: a well formed formula in its table, the ranks of its prefix, and its index in the idle table.
-- Assumes nothing.
use Rattle.std.specs.Prelude.{◌≡◌, ℕ, true, List}
use Rattle.meaning.specs.Formula.{Formula}
use Rattle.meaning.specs.WellFormed.{well_formed}
use Rattle.table.specs.Table.{Holds}
use Rattle.table.specs.Ranks.{ranks_of}
use Rattle.table.specs.declared.Counts.{Counts}
use Rattle.index.specs.Index.{index_of}

pub record Studied (φ : Formula) (t : List ℕ) (c : Counts) (ranks index : List ℕ) : Type 0 where
  pub holds : Holds φ t c
  pub well : well_formed φ ≡ true
  pub ranked : ranks ≡ ranks_of φ.prefix
  pub indexed : index ≡ index_of φ.clauses

pub record Study (t : List ℕ) (c : Counts) (ranks index : List ℕ) : Type 0 where
  pub formula : Formula
  pub studied : Studied formula t c ranks index
