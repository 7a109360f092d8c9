-- The loop's invariant: the clauses so far are in the lists of their literals.
-- Assumes nothing.
use mathlib.Core.Path.{◌≡◌}
use mathlib.Core.Bool.{true}
use lib.ListN.{length, take}
use Rattle.meaning.specs.Formula.{Formula}
use Rattle.meaning.specs.WellFormed.{well_formed}
use Rattle.table.specs.Table.{Holds}
use Rattle.index.specs.Index.{clauses_with}
use Rattle.index.specs.Build.{Filled, HeldWell}
use Rattle.index.proofs.fill.put_lists.Given as goal

abbrev pub invariant-loop-i : goal.invariant-loop-i
invariant-loop-i l = (length l.index ≡ 11261)
    × HeldWell l.t l.c
    × ((φ : Formula) → Holds φ l.t l.c → well_formed φ ≡ true → Filled φ.clauses (clauses_with (take l.i φ.clauses)) l.index)
