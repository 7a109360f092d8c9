-- The loop's invariant: the clauses that are left decide.
-- Assumes nothing.
use mathlib.Core.Path.{◌≡◌}
use lib.ListN.{drop}
use Rattle.meaning.specs.Formula.{Formula}
use Rattle.meaning.specs.Lists.{any_of, same}
use Rattle.rules.specs.Eliminate.{with_lit}
use Rattle.sides.specs.Sides.{FiledIn}
use Rattle.sides.proofs.sides.is_among.Given as goal

abbrev pub invariant-loop-i : goal.invariant-loop-i
invariant-loop-i l = (φ : Formula) → FiledIn φ l.at → any_of (same l.clause) (with_lit l.literal φ.clauses)
    ≡ any_of (same l.clause) (drop l.i (with_lit l.literal φ.clauses))
