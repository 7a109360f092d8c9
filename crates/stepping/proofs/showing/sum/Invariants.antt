-- Both parts of the sum stay below the modulus.
-- Assumes nothing.
use Prim.Native.Nat.{◌<◌}
use Rattle.stepping.proofs.showing.sum.Given as goal

abbrev pub invariant-loop-x : goal.invariant-loop-x
invariant-loop-x l = (l.a < 65521) × (l.b < 65521)
