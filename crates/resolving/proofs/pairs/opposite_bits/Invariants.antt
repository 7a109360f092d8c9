-- The loop's invariant: the literals that are left make the rest of the bits.
-- Assumes nothing.
use Prim.Native.Nat.{◌≤◌}
use mathlib.Core.Path.{◌≡◌}
use mathlib.Core.List.{foldl}
use lib.ListN.{length, drop}
use Rattle.resolving.specs.Pairs.{opposite_on, opposite_bits}
use Rattle.resolving.proofs.pairs.opposite_bits.Given as goal

abbrev pub invariant-loop-literal : goal.invariant-loop-literal
invariant-loop-literal l = (l.literal-index ≤ length l.clause) × (opposite_bits l.clause ≡ foldl opposite_on l.bits (drop l.literal-index l.clause))
