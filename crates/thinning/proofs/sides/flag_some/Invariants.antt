-- The loop's invariant: the clauses before are looked at.
-- Assumes nothing.
use Prim.Native.Nat.{ℕ, ◌≤◌}
use Rattle.meaning.specs.Formula.{Formula}
use Rattle.table.specs.Table.{Holds}
use Rattle.thinning.specs.Going.{Meets, Going}
use Rattle.thinning.proofs.sides.flag_some.Given as goal

abbrev pub invariant-loop-i : goal.invariant-loop-i
invariant-loop-i l = (l.i ≤ l.c.clauses) × ((φ : Formula) (o : ℕ) → Holds φ l.source l.c → Meets l.ranks l.last o φ.clauses l.met → Going l.ranks l.last l.literal o φ.clauses l.kept l.standing l.i)
