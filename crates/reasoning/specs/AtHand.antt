-- What is at hand where a variable is looked at: a well formed formula in its table, with no verdict and no step of kinds 1 to 5.
-- Assumes nothing.
use Rattle.std.specs.Prelude.{◌≡◌, ℕ, true, List}
use Rattle.meaning.specs.Formula.{Formula}
use Rattle.meaning.specs.WellFormed.{well_formed}
use Rattle.table.specs.Table.{Holds}
use Rattle.table.specs.declared.Counts.{Counts}
use Rattle.reasons.specs.Statement.{Quiet}

pub record HeldQuiet (t : List ℕ) (c : Counts) : Type 0 where
  pub formula : Formula
  pub holds : Holds formula t c
  pub well : well_formed formula ≡ true
  pub quiet : Quiet formula
