-- The invariant: the literals that are left make the rest of the hash.
-- Assumes nothing.
use Prim.Native.Nat.{◌≤◌, ◌<◌}
use mathlib.Core.Path.{◌≡◌}
use mathlib.Core.List.{foldl}
use lib.ListN.{length, drop}
use Rattle.stamps.specs.Stamp.{hash_on, hash_of}
use Rattle.stamps.proofs.hash_of.Given as goal

abbrev pub invariant-loop-literal : goal.invariant-loop-literal
invariant-loop-literal l = (l.literal-index ≤ length l.clause) × (l.h < 4294967296) × (hash_of l.clause ≡ foldl hash_on l.h (drop l.literal-index l.clause))
