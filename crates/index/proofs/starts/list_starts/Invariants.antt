-- The loop's invariant: the places below l have their starts, the others their counts.
-- Assumes nothing.
use mathlib.Core.Path.{◌≡◌}
use lib.ListN.{length}
use Rattle.meaning.specs.Formula.{Formula}
use Rattle.table.specs.Table.{all_literals}
use Rattle.index.specs.Build.{Tallies, Tallied}
use Rattle.index.proofs.StartLaws.{Summed}
use Rattle.index.proofs.starts.list_starts.Given as goal

abbrev pub invariant-loop-l : goal.invariant-loop-l
invariant-loop-l l = (length l.index ≡ 11261) × Tallied l.initial.index × ((φ : Formula) → Tallies φ l.initial.index → Summed (all_literals φ.clauses) l.index l.l l.sum)
