-- The invariant: what is read so far is a state of reading, and it is held. The measure is what is left of the text.
-- Assumes nothing.
use Prim.Native.Nat.{◌-◌}
use mathlib.Core.Path.{◌≡◌}
use lib.ListN.{length}
use Rattle.reader.proofs.TurnLaws.{Filling}
use Rattle.reader.proofs.turns.fill.Given as goal

abbrev pub invariant-loop-a : goal.invariant-loop-a
invariant-loop-a l = Filling l.text l.at l.r l.table l.scratch l.ranks l.marks × (length l.table ≡ length l.initial.table) × (length l.marks ≡ length l.initial.marks)

abbrev pub decreases-loop-a : goal.decreases-loop-a
decreases-loop-a l = length l.text - l.at
