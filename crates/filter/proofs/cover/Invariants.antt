-- The invariant: the stamps of the clauses so far are in.
-- Assumes nothing.
use mathlib.Core.Path.{◌≡◌}
use lib.ListN.{length}
use Rattle.meaning.specs.Formula.{Formula}
use Rattle.table.specs.Table.{Holds}
use Rattle.filter.proofs.FilterLaws.{Covered}
use Rattle.filter.proofs.cover.Given as goal

abbrev pub invariant-loop-i : goal.invariant-loop-i
invariant-loop-i l = (length l.filter ≡ length l.initial.filter) × ((φ : Formula) → Holds φ l.t l.c → Covered φ.clauses l.i l.filter)
