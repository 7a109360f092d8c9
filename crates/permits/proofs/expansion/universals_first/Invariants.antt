-- The loop's invariant: what is left decides.
-- Assumes nothing.
use mathlib.Core.Path.{◌≡◌}
use lib.ListN.{drop}
use Rattle.rules.specs.Eliminate.{universals_first}
use Rattle.permits.proofs.expansion.universals_first.Given as goal

abbrev pub invariant-loop-i : goal.invariant-loop-i
invariant-loop-i l = universals_first (drop l.from l.prefix) ≡ universals_first (drop l.i l.prefix)
