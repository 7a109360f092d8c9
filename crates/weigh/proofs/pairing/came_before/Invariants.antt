-- The loop's invariant: the pairs from the positive clause i on decide.
-- Assumes nothing.
use mathlib.Core.Path.{◌≡◌}
use Rattle.meaning.specs.Formula.{Formula}
use Rattle.index.specs.AtHand.{InHand}
use Rattle.weigh.specs.Resolving.{came_before}
use Rattle.weigh.proofs.ResolvRows.{rows_from}
use Rattle.weigh.proofs.pairing.came_before.Given as goal

abbrev pub invariant-loop-i : goal.invariant-loop-i
invariant-loop-i l = (φ : Formula) → InHand φ l.at → came_before φ l.a l.p.number l.clause ≡ rows_from φ l.a l.p.number l.i l.clause
