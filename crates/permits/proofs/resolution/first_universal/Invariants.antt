-- The loop's invariant: the first universal is among what is left.
-- Assumes nothing.
use mathlib.Core.Path.{◌≡◌}
use lib.ListN.{drop}
use Rattle.rules.specs.Eliminate.{from_universal}
use Rattle.permits.proofs.resolution.first_universal.Given as goal

abbrev pub invariant-loop-i : goal.invariant-loop-i
invariant-loop-i l = from_universal (drop l.from l.prefix) ≡ from_universal (drop l.i l.prefix)
