-- The loop's invariant: the counts are those of the result with the resolvents of the pairs before.
-- Assumes nothing.
use mathlib.Core.Path.{◌≡◌}
use Rattle.meaning.specs.Formula.{Formula}
use Rattle.table.specs.Table.{counts_of}
use Rattle.index.specs.AtHand.{InHand}
use Rattle.weigh.specs.Resolving.{resolved_to, Bounded, Placed}
use Rattle.weigh.proofs.resolving.count_pairs.Given as goal

abbrev pub invariant-loop-number : goal.invariant-loop-number
invariant-loop-number l = (l.p.number ≡ l.number) × Bounded l.p.number l.e × Placed l.width l.p
    × ((φ : Formula) → InHand φ l.at → l.initial.e ≡ counts_of (resolved_to φ l.a 0) l.initial.e.second → l.e ≡ counts_of (resolved_to φ l.a l.p.number) l.e.second)
