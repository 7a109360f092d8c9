-- The loop's invariant: the flags so far and the literals that are left make the whole.
-- Assumes nothing.
use Prim.Native.Nat.{◌≤◌}
use mathlib.Core.Path.{◌≡◌}
use mathlib.Core.List.{foldl}
use lib.ListN.{length, drop}
use Rattle.flags.specs.Flags.{raised}
use Rattle.thinning.proofs.others.raise_all.Given as goal

abbrev pub invariant-loop-literal : goal.invariant-loop-literal
invariant-loop-literal l = (l.literal-index ≤ length l.clause) × (foldl raised l.initial.words l.clause ≡ foldl raised l.words (drop l.literal-index l.clause))
