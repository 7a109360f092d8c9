-- The counts of the empty formula.
-- Assumes nothing.
use mathlib.Core.Path.{refl}
use Rattle.meaning.specs.WellFormed.{literals}
use Rattle.table.specs.Table.{counts_of, empty_formula}
use Rattle.table.proofs.Counts.empty.Goals as goal

pub returns : goal.returns
unfolding counts_of empty_formula literals
returns c = refl
