-- The loop's invariant: the literals so far are counted.
-- Assumes nothing.
use Prim.Native.Nat.{◌≤◌}
use mathlib.Core.Path.{◌≡◌}
use mathlib.Core.Bool.{true}
use lib.ListN.{length, take}
use Rattle.meaning.specs.Lists.{all_of}
use Rattle.table.specs.Ranks.{small}
use Rattle.index.specs.Build.{counts_in}
use Rattle.index.proofs.starts.count_literals.Given as goal

abbrev pub invariant-loop-literal : goal.invariant-loop-literal
invariant-loop-literal l = (length l.literals ≤ 8191)
    × (all_of small l.literals ≡ true)
    × (length l.index ≡ 11261) × (l.index ≡ counts_in (take l.literal-index l.literals))
