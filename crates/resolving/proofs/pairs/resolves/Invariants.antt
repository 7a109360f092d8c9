-- The loop's invariant: the negative literal was found, or the literals that are left decide whether it is there.
-- Assumes nothing.
use Prim.Native.Nat.{◌≤◌}
use mathlib.Core.Path.{◌≡◌}
use mathlib.Core.Bool.{◌||◌}
use lib.ListN.{length, drop}
use Rattle.meaning.specs.Lists.{has}
use Rattle.resolving.proofs.pairs.resolves.Given as goal

abbrev pub invariant-loop-literal : goal.invariant-loop-literal
invariant-loop-literal l = (l.literal-index ≤ length l.y) × (has l.negative l.y ≡ (l.found || has l.negative (drop l.literal-index l.y)))
