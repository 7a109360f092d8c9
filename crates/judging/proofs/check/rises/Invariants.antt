-- The loop's invariant: the literals from the one before on decide.
-- Assumes nothing.
use Prim.Native.Nat.{◌≤◌, ◌-◌}
use mathlib.Core.Path.{◌≡◌}
use lib.ListN.{drop}
use Rattle.meaning.specs.WellFormed.{ascends}
use Rattle.judging.proofs.check.rises.Given as goal

abbrev pub invariant-loop-i : goal.invariant-loop-i
invariant-loop-i l = (1 ≤ l.i) × (ascends l.clause ≡ ascends (drop (l.i - 1) l.clause))
