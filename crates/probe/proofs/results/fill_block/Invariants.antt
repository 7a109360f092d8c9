-- What has been put at the front of the block.
-- Assumes nothing.
use Prim.Native.Nat.{◌*◌}
use mathlib.Core.Path.{◌≡◌}
use lib.ListN.{take}
use Rattle.probe.specs.Results.{of_numbers}
use Rattle.probe.proofs.results.fill_block.Given as goal

abbrev pub invariant-loop-i : goal.invariant-loop-i
invariant-loop-i l = take (2 * l.i) l.block ≡ of_numbers (take l.i l.numbers)
