-- The loop's invariant: the copies that are left make the whole.
-- Assumes nothing.
use Prim.Native.Nat.{ℕ, ◌≤◌, ◌+◌, ◌-◌}
use mathlib.Core.Path.{◌≡◌}
use mathlib.Core.List.{List, map}
use lib.ListN.{length}
use Rattle.meaning.specs.Formula.{Formula, plain}
use Rattle.rules.specs.Eliminate.{fresh}
use Rattle.table.specs.Table.{Holds, Held}
use Rattle.recipes.specs.Recipe.{Ready, Readied}
use Rattle.expanding.proofs.CopyLaws.{Copying}
use Rattle.expanding.proofs.copies.push_copies.Given as goal

abbrev pub invariant-loop-v : goal.invariant-loop-v
invariant-loop-v l = (l.v ≤ l.k + l.n + 1) × (l.k ≤ 1023) × (l.n ≤ 1023) × Readied l.ranks × (length l.target ≡ length l.initial.target) × Held l.target l.e × ((p : List ℕ) (ψ : Formula) → Ready p l.ranks → length p ≡ l.k → Holds ψ l.initial.target l.initial.e → Copying p ψ l.enough l.v (l.k + l.n + 1 - l.v) (map plain (fresh p l.n)) l.initial.e.second l.target l.e)
