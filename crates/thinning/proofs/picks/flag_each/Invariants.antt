-- The loop's invariant: the clauses before are looked at.
-- Assumes nothing.
use mathlib.Core.Bool.{Bool}
use mathlib.Core.List.{List}
use mathlib.Core.Path.{◌≡◌}
use Prim.Native.Nat.{ℕ, ◌≤◌}
use Rattle.meaning.specs.Formula.{Formula}
use Rattle.table.specs.Table.{Holds}
use Rattle.thinning.specs.Going.{Picking}
use Rattle.thinning.proofs.picks.flag_each.Given as goal

abbrev pub invariant-loop-i : goal.invariant-loop-i
invariant-loop-i g l = (l.i ≤ l.c.clauses) × ((φ : Formula) (f : List ℕ → Bool) → Holds φ l.source l.c → ((x : _) (b : Bool) → goal.F-post g l.passes x b → b ≡ f x.now) → Picking f φ.clauses l.kept l.i)
