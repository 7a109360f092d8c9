-- What a run and a replay give back, and what they leave in the two tables and the log (document 01, "The run", "Numbers given back").
-- Assumes nothing.
use Rattle.std.specs.Prelude.{◌≡◌, ℕ, zero, suc, ◌*◌, Bool, true, not, List, ◌++◌, length, drop, Option, Some, None}
use Rattle.meaning.specs.Formula.{Formula}
use Rattle.meaning.specs.WellFormed.{well_formed, fits}
use Rattle.rules.specs.Entry.{log_bytes}
use Rattle.rules.specs.Run as rules
use Rattle.rules.specs.Run.{ended, stopped, Ran, Replayed, all_applied, refused_by}
use Rattle.table.specs.Table.{counts_of}
use Rattle.table.specs.declared.Counts.{Counts}
use Rattle.apply.specs.Applied.{refused_as, Stands}
use Rattle.apply.specs.declared.Refusal.{Refusal}
use Rattle.choice.specs.Chosen.{end_as}
use Rattle.choice.specs.declared.End.{End}
use Rattle.course.specs.declared.Running.{Running}
use Rattle.course.specs.declared.Replaying.{Replaying}

-- how a run ends by itself; none where it is stopped
unfoldable pub outcome_as : rules.Outcome → Option End
outcome_as (ended e) = Some (end_as e)
outcome_as stopped = None

-- the refusal at which a replay stops; none where all entries are applied
unfoldable pub stop_as : rules.Stop → Option Refusal
stop_as all_applied = None
stop_as (refused_by x) = Some (refused_as x)

-- "A step's result stands in the other table": the side after n steps from side s
unfoldable pub side_from : Bool → ℕ → Bool
side_from s zero = s
side_from s (suc n) = not (side_from s n)

-- ψ stands on side s, within the limits, and the record is its
pub record Here (ψ : Formula) (s : Bool) (a b : List ℕ) (d : Counts) : Type 0 where
  pub stands : Stands ψ s a b
  pub counts : d ≡ counts_of ψ s
  pub well : well_formed ψ ≡ true
  pub room : fits ψ ≡ true

-- a run x that began on side s with this log: what it gives back and leaves
pub record RanAs (x : Ran) (s : Bool) (log₀ : List ℕ) (r : Running) (a b log : List ℕ) : Type 0 where
  pub outcome : r.outcome ≡ outcome_as x.outcome
  pub steps : r.steps ≡ length x.log
  pub here : Here x.final (side_from s (length x.log)) a b r.counts
  pub written : log ≡ log_bytes x.log ++ drop (4 * length x.log) log₀

-- a replay x that began on side s
pub record ReplayedAs (x : Replayed) (s : Bool) (r : Replaying) (a b : List ℕ) : Type 0 where
  pub stop : r.stop ≡ stop_as x.stop
  pub applied : r.applied ≡ x.applied
  pub here : Here x.formula (side_from s x.applied) a b r.counts
