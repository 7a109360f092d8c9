-- The run, and the replay of its log (document 01, "The run" and "Numbers given back").
-- Assumes nothing.
use Rattle.std.specs.Prelude.{ℕ, zero, suc, ◌+◌, ◌*◌, ◌/◌, min, true, false, cond, List, [], ◌∷◌}
use Rattle.meaning.specs.Formula.{Formula}
use Rattle.meaning.specs.Game.{empty_clause, no_clause}
use Rattle.meaning.specs.WellFormed.{weight, universals}
use Rattle.rules.specs.Entry.{Kind, entry, LogRead, bad_length, entries, read_log}
use Rattle.rules.specs.Step.{result_of, Refusal, entry_bad, StepAnswer, refused, stepped, step_of}
use Rattle.rules.specs.Choice.{Choice, take_step, stuck, choose}

-- the ways in which a run ends, and their numbers
pub data End : Type 0 where
  true_end false_end finished out_of_room : End

pub data Outcome : Type 0 where
  ended : End → Outcome
  stopped : Outcome

unfoldable pub end_number : End → ℕ
end_number true_end = 20
end_number false_end = 21
end_number finished = 22
end_number out_of_room = 23

unfoldable pub outcome_number : Outcome → ℕ
outcome_number (ended e) = end_number e
outcome_number stopped = 24

-- at each point: the end, or the step that is taken
pub data Next : Type 0 where
  over : End → Next
  step : Kind → ℕ → ℕ → Next

-- "No candidate: OUT OF ROOM exactly if a kind 6 or 7 step failed only for room, else FINISHED."
unfoldable pub next_of : Choice → Next
next_of (take_step k a b) = step k a b
next_of (stuck true) = over out_of_room
next_of (stuck false) = over finished

-- "At each point: an empty clause, FALSE; no clause, TRUE; else take the first kind in the order 1 to 7 with a candidate."
unfoldable pub next : ℕ → Formula → Next
next E φ = cond (empty_clause φ.clauses) (over false_end) (cond (no_clause φ.clauses) (over true_end) (next_of (choose E φ)))

pub record Ran : Type 0 where
  pub outcome : Outcome
  pub final : Formula
  pub log : List ℕ

unfoldable pub ran_nothing : Outcome → Formula → Ran
ran_nothing o φ = record { outcome = o; final = φ; log = [] }

unfoldable pub logged : ℕ → Ran → Ran
logged e r = record { outcome = r.outcome; final = r.final; log = e ∷ r.log }

-- "If a candidate stands but the step count equals the smaller of the caller's limit and whole log entries available: STOPPED."
unfoldable pub halt : Formula → Next → Ran
halt φ (over e) = ran_nothing (ended e) φ
halt φ (step k a b) = ran_nothing stopped φ

unfoldable pub onward : (Formula → Ran) → Formula → Next → Ran
onward rest φ (over e) = ran_nothing (ended e) φ
onward rest φ (step k a b) = logged (entry k a b) (rest (result_of φ k a b))

-- the run with allowance E and n steps left
unfoldable pub run_from : ℕ → ℕ → Formula → Ran
run_from E zero φ = halt φ (next E φ)
run_from E (suc n) φ = onward (λ ψ. run_from E n ψ) φ (next E φ)

-- the run as it is called: with the caller's limit, and a log of so many bytes
unfoldable pub run : ℕ → ℕ → ℕ → Formula → Ran
run E limit bytes φ = run_from E (min limit (bytes / 4)) φ

-- "at most W + U x (E + 1) steps"
unfoldable pub step_bound : ℕ → Formula → ℕ
step_bound E φ = weight φ + universals φ.prefix * (E + 1)

-- Replay -----------------------------------------------------------------------------------------------------
pub data Stop : Type 0 where
  all_applied : Stop
  refused_by : Refusal → Stop

-- "gives its refusal and the number applied, and leaves the formula after those"
pub record Replayed : Type 0 where
  pub stop : Stop
  pub formula : Formula
  pub applied : ℕ

unfoldable pub replayed_none : Stop → Formula → Replayed
replayed_none s φ = record { stop = s; formula = φ; applied = 0 }

unfoldable pub one_applied : Replayed → Replayed
one_applied r = record { stop = r.stop; formula = r.formula; applied = suc r.applied }

-- "Replay stops at the first refused entry"
unfoldable pub replay_on : (Formula → Replayed) → Formula → StepAnswer → Replayed
replay_on rest φ (refused r) = replayed_none (refused_by r) φ
replay_on rest φ (stepped ψ) = one_applied (rest ψ)

unfoldable pub replay : Formula → List ℕ → Replayed
replay φ [] = replayed_none all_applied φ
replay φ (e ∷ es) = replay_on (λ ψ. replay ψ es) φ (step_of φ e)

-- "log length not a multiple of 4 (before any step)" is BAD ENTRY
unfoldable pub replay_read : Formula → LogRead → Replayed
replay_read φ bad_length = replayed_none (refused_by entry_bad) φ
replay_read φ (entries es) = replay φ es

unfoldable pub replay_bytes : Formula → List ℕ → Replayed
replay_bytes φ bs = replay_read φ (read_log bs)
