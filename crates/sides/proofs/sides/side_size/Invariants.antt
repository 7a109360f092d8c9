-- The loop's invariant: the sum, and the literals of the clauses that are left, are all.
-- Assumes nothing.
use Prim.Native.Nat.{◌+◌}
use mathlib.Core.Path.{◌≡◌}
use lib.ListN.{drop}
use Rattle.meaning.specs.Formula.{Formula}
use Rattle.meaning.specs.WellFormed.{literals}
use Rattle.rules.specs.Eliminate.{with_lit}
use Rattle.sides.specs.Sides.{FiledIn}
use Rattle.sides.proofs.sides.side_size.Given as goal

abbrev pub invariant-loop-i : goal.invariant-loop-i
invariant-loop-i l = (φ : Formula) → FiledIn φ l.at → literals (with_lit l.literal φ.clauses) ≡ l.sum + literals (drop l.i (with_lit l.literal φ.clauses))
