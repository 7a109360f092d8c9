-- The loop's invariant: the variables that are left go on from the standing.
-- Assumes nothing.
use mathlib.Core.Path.{◌≡◌}
use Rattle.meaning.specs.Formula.{Formula}
use Rattle.rules.specs.Entry.{expand}
use Rattle.choice.specs.Chosen.{consider_all, Ranks}
use Rattle.choice.proofs.TurnLaws.{variables_from}
use Rattle.choice.proofs.lightest.best_expand.Given as goal

abbrev pub invariant-loop-i : goal.invariant-loop-i
invariant-loop-i l = ((φ : Formula) → Ranks φ l.t l.fn.c l.ranks → consider_all φ expand l.initial.s (variables_from φ 0) ≡ consider_all φ expand l.s (variables_from φ l.i))
