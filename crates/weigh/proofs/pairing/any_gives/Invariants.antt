-- The loop's invariant: the negative clauses from j to m decide.
-- Assumes nothing.
use mathlib.Core.Path.{◌≡◌}
use lib.ListN.{take, drop}
use Rattle.meaning.specs.Lists.{any_of}
use Rattle.meaning.specs.Formula.{Formula, negated}
use Rattle.meaning.specs.Tidy.{tidy}
use Rattle.rules.specs.Eliminate.{with_lit}
use Rattle.index.specs.AtHand.{InHand}
use Rattle.resolvents.specs.Resolvent.{resolvent, becomes}
use Rattle.weigh.specs.Resolving.{any_gives}
use Rattle.weigh.proofs.pairing.any_gives.Given as goal

abbrev pub invariant-loop-j : goal.invariant-loop-j
invariant-loop-j l = (φ : Formula) → InHand φ l.at → any_gives φ l.a l.x l.m l.clause
    ≡ any_of (λ y. becomes l.clause (tidy φ.prefix (resolvent l.a l.x y))) (drop l.j (take l.m (with_lit (negated l.a) φ.clauses)))
