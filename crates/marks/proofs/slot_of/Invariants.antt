-- The invariant: the literals that are left make the rest of the slot.
-- Assumes nothing.
use Prim.Native.Nat.{◌≤◌, ◌<◌}
use mathlib.Core.Path.{◌≡◌}
use mathlib.Core.List.{foldl}
use lib.ListN.{length, drop}
use Rattle.marks.specs.Marks.{slots, slot_on, slot_of}
use Rattle.marks.proofs.slot_of.Given as goal

abbrev pub invariant-loop-literal : goal.invariant-loop-literal
invariant-loop-literal l = (l.literal-index ≤ length l.clause) × (l.h < slots) × (slot_of l.clause ≡ foldl slot_on l.h (drop l.literal-index l.clause))
