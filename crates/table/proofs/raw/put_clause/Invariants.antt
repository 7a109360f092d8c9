-- The loop's invariant: the literals so far are put.
-- Assumes nothing.
use Prim.Native.Nat.{ℕ, ◌≤◌}
use mathlib.Core.Path.{◌≡◌}
use mathlib.Core.Bool.{true}
use mathlib.Core.List.{List, ◌++◌}
use lib.ListN.{length, take}
use Rattle.meaning.specs.Lists.{all_of}
use Rattle.table.specs.Pending.{in_range, Pends, Pended}
use Rattle.table.proofs.raw.put_clause.Given as goal

abbrev pub invariant-loop-literal : goal.invariant-loop-literal
invariant-loop-literal l = (l.literal-index ≤ length l.clause) × (length l.scratch ≡ length l.initial.scratch) × (all_of in_range l.clause ≡ true) × ((raw : List ℕ) → Pends raw l.initial.scratch l.initial.q → Pends (raw ++ take l.literal-index l.clause) l.scratch l.q) × Pended l.scratch l.q
