-- The loop's invariant: what became of the literals so far is put.
-- Assumes nothing.
use Prim.Native.Nat.{ℕ}
use mathlib.Core.List.{List, ◌++◌}
use lib.ListN.{take}
use Rattle.table.specs.Pending.{Pends, Pended}
use Rattle.recipes.specs.Recipe.{fed, Ready}
use Rattle.recipes.proofs.recipes.feed.Given as goal

abbrev pub invariant-loop-literal : goal.invariant-loop-literal
invariant-loop-literal l = Ready l.prefix l.ranks × ((raw : List ℕ) → Pends raw l.initial.scratch l.initial.w → Pends (raw ++ fed l.turn l.prefix l.i (take l.literal-index l.clause)) l.scratch l.w) × Pended l.scratch l.w
