-- The loop's invariant: what is left of the clauses goes on from what is in the target, and the next one has the negative literal.
-- Assumes nothing.
use Prim.Native.Nat.{◌≤◌, ◌<◌, ◌-◌}
use mathlib.Core.Path.{◌≡◌}
use mathlib.Core.Bool.{true}
use mathlib.Core.List.{[]}
use lib.ListN.{length, get_or, drop}
use Rattle.meaning.specs.Lists.{has}
use Rattle.meaning.specs.Formula.{Formula}
use Rattle.table.specs.Table.{Holds}
use Rattle.rebuilds.specs.Raws.{Going}
use Rattle.resolving.specs.Pairs.{each_of, of_pair}
use Rattle.resolving.proofs.resolving.add_pairs.Given as goal

abbrev pub invariant-loop-i : goal.invariant-loop-i
invariant-loop-i l = (l.i ≤ l.to) × (length l.target ≡ length l.initial.target) × ((φ : Formula) → Holds φ l.source l.c → l.i < l.to → has l.negative (get_or φ.clauses l.i []) ≡ true) × ((φ ψ : Formula) → Holds φ l.source l.c → Holds ψ l.initial.target l.initial.e → Going ψ (each_of (of_pair l.positive l.negative l.x) φ.clauses) (each_of (of_pair l.positive l.negative l.x) (drop l.i φ.clauses)) l.initial.e.second l.target l.e)

abbrev pub decreases-loop-i : goal.decreases-loop-i
decreases-loop-i l = l.to - l.i
