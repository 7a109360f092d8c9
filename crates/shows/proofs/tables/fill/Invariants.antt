-- One number after the other.
-- Assumes nothing.
use Prim.Native.Nat.{ℕ, ◌≤◌, ◌<◌}
use mathlib.Core.Path.{◌≡◌}
use lib.ListN.{length, get_or}
use Rattle.shows.specs.Numbers.{EntryOf}
use Rattle.shows.proofs.tables.fill.Given as goal

abbrev pub invariant-loop-i : goal.invariant-loop-i
invariant-loop-i l = (l.size ≤ length l.initial.t) × (length l.t ≡ length l.initial.t) × ((k : ℕ) → k < l.i → EntryOf l.bytes l.given k (get_or l.t k 0))
