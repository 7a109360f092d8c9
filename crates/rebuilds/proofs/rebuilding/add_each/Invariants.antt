-- The loop's invariant: what is left of the clauses goes on from what is in the target, and the filter covers the target but for the
-- clauses of the source before this one.
-- Assumes nothing.
use mathlib.Core.Path.{◌≡◌}
use lib.ListN.{length, take, drop}
use Rattle.meaning.specs.Formula.{Formula}
use Rattle.table.specs.Table.{decode, Holds}
use Rattle.filter.specs.Filter.{CoversBut}
use Rattle.rebuilds.specs.Raws.{Going}
use Rattle.recipes.specs.Recipe.{raws_by}
use Rattle.rebuilds.proofs.rebuilding.add_each.Given as goal

abbrev pub invariant-loop-i : goal.invariant-loop-i
invariant-loop-i l = (length l.target ≡ length l.initial.target) × (length l.filter ≡ length l.initial.filter) × CoversBut (take l.i (decode l.source l.c).clauses) l.target l.e l.filter × ((φ ψ : Formula) → Holds φ l.source l.c → Holds ψ l.initial.target l.initial.e → Going ψ (raws_by l.which l.turn ψ.prefix l.from (drop l.from φ.clauses)) (raws_by l.which l.turn ψ.prefix l.i (drop l.i φ.clauses)) l.initial.e.second l.target l.e)
