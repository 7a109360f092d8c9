-- The loop's invariant: at i and j stand the next literals that stay, and what is left from there decides.
-- Assumes nothing.
use Prim.Native.Nat.{◌-◌, ◌≤◌, ◌<◌}
use mathlib.Core.Path.{◌≡◌}
use mathlib.Core.Bool.{true}
use lib.ListN.{length, get_or, drop}
use Rattle.meaning.specs.Lists.{keep_if, same}
use Rattle.table.specs.Ranks.{stays_by}
use Rattle.thinning.proofs.parts.same_firm.Given as goal

abbrev pub invariant-loop-i : goal.invariant-loop-i
invariant-loop-i l = (l.i ≤ length l.a) × (l.j ≤ length l.b) × (l.i < length l.a → stays_by l.ranks l.x (get_or l.a l.i 0) ≡ true) × (l.j < length l.b → stays_by l.ranks l.y (get_or l.b l.j 0) ≡ true) × (same (keep_if (stays_by l.ranks l.x) l.a) (keep_if (stays_by l.ranks l.y) l.b) ≡ same (keep_if (stays_by l.ranks l.x) (drop l.i l.a)) (keep_if (stays_by l.ranks l.y) (drop l.j l.b)))

abbrev pub decreases-loop-i : goal.decreases-loop-i
decreases-loop-i l = length l.a - l.i
