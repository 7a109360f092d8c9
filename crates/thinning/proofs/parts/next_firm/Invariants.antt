-- The loop's invariant: no literal between stays.
-- Assumes nothing.
use Prim.Native.Nat.{◌≤◌}
use mathlib.Core.Path.{◌≡◌}
use lib.ListN.{length, drop}
use Rattle.meaning.specs.Lists.{keep_if}
use Rattle.table.specs.Ranks.{stays_by}
use Rattle.thinning.proofs.parts.next_firm.Given as goal

abbrev pub invariant-loop-i : goal.invariant-loop-i
invariant-loop-i l = (l.from ≤ l.i) × (l.i ≤ length l.clause) × (keep_if (stays_by l.ranks l.last) (drop l.from l.clause) ≡ keep_if (stays_by l.ranks l.last) (drop l.i l.clause))
