-- The loop's invariant: the table stays ready.
-- Assumes nothing.
use mathlib.Core.Path.{◌≡◌}
use lib.ListN.{length}
use Rattle.table.specs.Ready.{Ready}
use Rattle.tables.proofs.adding.quantify_all.Given as goal

abbrev pub invariant-loop-entry : goal.invariant-loop-entry
invariant-loop-entry l = (length l.t ≡ length l.initial.t) × Ready l.t l.ranks l.counts
