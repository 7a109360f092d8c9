-- The loop's invariant: the clauses that are left decide.
-- Assumes nothing.
use mathlib.Core.Path.{◌≡◌}
use lib.ListN.{drop}
use Rattle.meaning.specs.Formula.{Formula}
use Rattle.meaning.specs.Lists.{all_of}
use Rattle.rules.specs.Eliminate.{with_lit}
use Rattle.permits.specs.Places.{within, side_within}
use Rattle.index.specs.AtHand.{InHand}
use Rattle.sides.proofs.sides.side_near.Given as goal

abbrev pub invariant-loop-i : goal.invariant-loop-i
invariant-loop-i l = (φ : Formula) → InHand φ l.at → side_within φ l.literal l.n
    ≡ all_of (within φ.prefix l.n) (drop l.i (with_lit l.literal φ.clauses))
