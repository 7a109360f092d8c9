-- The loop's invariant: what is left of the clauses goes on from what is in the target.
-- Assumes nothing.
use mathlib.Core.Path.{◌≡◌}
use lib.ListN.{length, drop}
use Rattle.meaning.specs.Formula.{Formula}
use Rattle.table.specs.Table.{Holds}
use Rattle.rebuilds.specs.Raws.{Going}
use Rattle.resolving.specs.Pairs.{each_of, of_clause}
use Rattle.resolving.proofs.resolving.add_by_positive.Given as goal

abbrev pub invariant-loop-i : goal.invariant-loop-i
invariant-loop-i l = (length l.target ≡ length l.initial.target) × ((φ ψ : Formula) → Holds φ l.source l.c → Holds ψ l.initial.target l.initial.e → Going ψ (each_of (of_clause l.positive l.negative φ.clauses) φ.clauses) (each_of (of_clause l.positive l.negative φ.clauses) (drop l.i φ.clauses)) l.initial.e.second l.target l.e)
