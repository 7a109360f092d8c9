-- The loop's invariant: the variables that are left go on from the standing, and the first universal from the next one on is known.
-- Assumes nothing.
use mathlib.Core.Path.{◌≡◌}
use lib.ListN.{take, drop}
use Rattle.meaning.specs.Formula.{Formula}
use Rattle.rules.specs.Eliminate.{from_universal}
use Rattle.rules.specs.Entry.{resolve}
use Rattle.index.specs.AtHand.{InHand}
use Rattle.choice.specs.Chosen.{consider_all}
use Rattle.choice.proofs.TurnLaws.{variables_from}
use Rattle.choice.proofs.lightest.best_resolve.Given as goal

abbrev pub invariant-loop-i : goal.invariant-loop-i
invariant-loop-i l = (from_universal (drop l.i (take l.at.counts.variables l.at.table.now)) ≡ drop l.n (take l.at.counts.variables l.at.table.now))
    × ((φ : Formula) → InHand φ l.at → consider_all φ resolve l.initial.s (variables_from φ 0) ≡ consider_all φ resolve l.s (variables_from φ l.i))
