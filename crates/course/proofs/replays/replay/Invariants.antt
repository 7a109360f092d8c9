-- The spare table is zeroed; then the entries one after the other. The invariant: what is left of the log makes the whole replay.
-- Assumes nothing.
use mathlib.Core.Path.{◌≡◌}
use lib.ListN.{length}
use Rattle.meaning.specs.Formula.{Formula}
use Rattle.course.specs.Course.{Here}
use Rattle.course.proofs.ReplayLaws.{Along}
use Rattle.course.proofs.replays.replay.Given as goal

abbrev pub invariant-loop-n : goal.invariant-loop-n
invariant-loop-n l = (length l.first ≡ length l.initial.first)
    × (length l.second ≡ length l.initial.second)
    × ((φ : Formula) → Here φ l.initial.d.second l.initial.first l.initial.second l.initial.d → Along φ l.log l.initial.d.second l.n l.first l.second l.d)
