-- The loop's invariant: nothing comes of the clauses behind, where only clauses with the literal count.
-- Assumes nothing.
use Prim.Native.Nat.{ℕ, ◌≤◌}
use mathlib.Core.Path.{◌≡◌}
use mathlib.Core.List.{List, []}
use lib.ListN.{drop}
use Rattle.meaning.specs.Formula.{Formula}
use Rattle.table.specs.Table.{Holds}
use Rattle.resolving.specs.Pairs.{each_of, Silent}
use Rattle.resolving.proofs.pairs.end_with.Given as goal

abbrev pub invariant-loop-i : goal.invariant-loop-i
invariant-loop-i l = (l.from ≤ l.i) × (l.i ≤ l.c.clauses) × ((φ : Formula) (f : List ℕ → List (List ℕ)) → Holds φ l.source l.c → Silent l.literal f → each_of f (drop l.i φ.clauses) ≡ [])
