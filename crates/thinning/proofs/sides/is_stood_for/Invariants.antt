-- The loop's invariant: clause j is the next that may stand in.
-- Assumes nothing.
use Prim.Native.Nat.{◌≤◌, ◌<◌}
use mathlib.Core.Path.{◌≡◌}
use mathlib.Core.Bool.{true}
use Rattle.flags.specs.Flags.{flag}
use Rattle.thinning.proofs.sides.is_stood_for.Given as goal

abbrev pub invariant-loop-look : goal.invariant-loop-look
invariant-loop-look l = (l.j ≤ l.i) × (l.j < l.i → flag l.standing l.j ≡ true)
