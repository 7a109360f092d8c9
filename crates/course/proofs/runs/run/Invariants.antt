-- The loop's invariant: so many steps are done, and what is left makes the whole run.
-- Assumes nothing.
use Prim.Native.Nat.{◌≤◌, ◌-◌}
use mathlib.Core.Path.{◌≡◌}
use lib.ListN.{length}
use Rattle.meaning.specs.Formula.{Formula}
use Rattle.course.specs.Course.{Here}
use Rattle.course.proofs.RunLaws.{Turns}
use Rattle.course.proofs.runs.run.Given as goal

abbrev pub invariant-loop-end : goal.invariant-loop-end
invariant-loop-end l = (l.n ≤ l.room) × (length l.first ≡ length l.initial.first) × (length l.second ≡ length l.initial.second) × (length l.log ≡ length l.initial.log)
    × ((φ : Formula) → Here φ l.initial.d.second l.initial.first l.initial.second l.initial.d → Turns φ l.allowance l.room l.initial.d.second l.initial.log l.first l.second l.log l.d l.n l.searched)

abbrev pub decreases-loop-end : goal.decreases-loop-end
decreases-loop-end l = l.room - l.n
