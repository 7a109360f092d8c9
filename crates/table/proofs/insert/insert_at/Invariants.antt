-- The loop's invariant: the numbers from j on are shifted. Then the place is stored to.
-- Assumes nothing.
use Prim.Native.Nat.{◌≤◌}
use mathlib.Core.Path.{◌≡◌}
use lib.ListN.{length}
use Rattle.table.specs.Insert.{shifted}
use Rattle.table.proofs.insert.insert_at.Given as goal

abbrev pub invariant-loop-j : goal.invariant-loop-j
invariant-loop-j l = (l.p ≤ l.j) × (l.j ≤ l.m) × (length l.s ≡ length l.initial.s) × (l.s ≡ shifted l.initial.s l.j l.m)
