-- What a run gives and leaves (document 01, "The run", "Numbers given back"): the answer, the record, the number of steps, both
-- tables and the log after it, for any two tables, any record, any allowance and limit, and any log.
-- Assumes nothing.
use Rattle.std.specs.Prelude.{◌≡◌, Bool, true, false, List, ◌++◌, ℕ, ◌*◌, leb, length, drop, Option, Some, None, Ok, Err}
use Rattle.judging.specs.declared.Unfit.TheVariants as said
use Rattle.judging.specs.declared.Unfit.{Unfit}
use Rattle.choice.specs.declared.End.TheVariants as end
use Rattle.running.specs.declared.runs.RunAnswer.TheVariants as says
use Rattle.rules.specs.Entry.{log_bytes}
use Rattle.rules.specs.Run as rules
use Rattle.rules.specs.Run.{true_end, false_end, finished, out_of_room, ended, stopped}
use Rattle.table.specs.Table.{counts_of}
use Rattle.judging.specs.Check.{Asked, asked}
use Rattle.table.specs.declared.Counts.{Counts}
use Rattle.course.specs.Course.{side_from}
use Rattle.choice.specs.declared.End.{End}
use Rattle.course.specs.declared.Running.{Running}
use Rattle.standing.specs.Standing.{formula_in, first_for, second_for}
use Rattle.running.specs.declared.runs.RunAnswer.{RunAnswer}
use Rattle.running.specs.declared.runs.Ran.{Ran}

-- document 01's number of an answer
unfoldable pub run_number : RunAnswer → ℕ
run_number says.True = 20
run_number says.False = 21
run_number says.Finished = 22
run_number says.OutOfRoom = 23
run_number says.Stopped = 24
run_number says.Length = 1
run_number says.Malformed = 2
run_number says.Allowance = 13

unfoldable pub outcome_answer : rules.Outcome → RunAnswer
outcome_answer (ended true_end) = says.True
outcome_answer (ended false_end) = says.False
outcome_answer (ended finished) = says.Finished
outcome_answer (ended out_of_room) = says.OutOfRoom
outcome_answer stopped = says.Stopped

-- What is said of a call: "Order: 1, 2, 13", and "E over 1,000" is ALLOWANCE -----------------------------------
pub data Heard : Type 0 where
  runs : Heard
  refuses : RunAnswer → Heard

unfoldable pub heard_of : Bool → Heard
heard_of true = runs
heard_of false = refuses says.Allowance

-- the answer to a call that is refused for the tables
abbrev pub unfit_answer : Unfit → RunAnswer
unfit_answer said.WrongLength = says.Length
unfit_answer said.Malformed = says.Malformed

unfoldable pub heard_for : Asked → ℕ → Heard
heard_for (Ok u) E = heard_of (leb E 1000)
heard_for (Err u) E = refuses (unfit_answer u)

-- What is given and left, by that and by the run x from side s -------------------------------------------------
-- "With 1, 2, 13 the record comes back as lent, with 0 steps"
unfoldable pub ran_for : Heard → Counts → rules.Ran → Ran
ran_for runs c x =
    record { answer = outcome_answer x.outcome; counts = counts_of x.final (side_from c.second (length x.log)); steps = length x.log }
ran_for (refuses a) c x = record { answer = a; counts = c; steps = 0 }

-- "final formula, log"; with 1, 2 and 13 "nothing written"
unfoldable pub first_ran : Heard → List ℕ → Bool → rules.Ran → List ℕ
first_ran runs a s x = first_for (side_from s (length x.log)) x.final
first_ran (refuses r) a s x = a

unfoldable pub second_ran : Heard → List ℕ → Bool → rules.Ran → List ℕ
second_ran runs b s x = second_for (side_from s (length x.log)) x.final
second_ran (refuses r) b s x = b

-- "Log and output bytes past the end of what was written stay."
unfoldable pub log_ran : Heard → List ℕ → rules.Ran → List ℕ
log_ran runs log x = log_bytes x.log ++ drop (4 * length x.log) log
log_ran (refuses r) log x = log

-- The call -----------------------------------------------------------------------------------------------------
unfoldable pub heard_in : List ℕ → List ℕ → Counts → ℕ → Heard
heard_in first second c E = heard_for (asked first second c) E

unfoldable pub run_in : List ℕ → List ℕ → Counts → ℕ → ℕ → List ℕ → rules.Ran
run_in first second c E limit log = rules.run E limit (length log) (formula_in first second c)

-- the tables a and b and the log are left as a', b' and log'
pub record Runs (a b : List ℕ) (c : Counts) (E limit : ℕ) (log : List ℕ) (r : Ran) (a' b' log' : List ℕ) : Type 0 where
  pub given : r ≡ ran_for (heard_in a b c E) c (run_in a b c E limit log)
  pub first : a' ≡ first_ran (heard_in a b c E) a c.second (run_in a b c E limit log)
  pub second : b' ≡ second_ran (heard_in a b c E) b c.second (run_in a b c E limit log)
  pub written : log' ≡ log_ran (heard_in a b c E) log (run_in a b c E limit log)

-- What the run between the tables comes to, given back ----------------------------------------------------------
unfoldable pub answer_back : Option End → RunAnswer
answer_back (Some end.True) = says.True
answer_back (Some end.False) = says.False
answer_back (Some end.Finished) = says.Finished
answer_back (Some end.OutOfRoom) = says.OutOfRoom
answer_back None = says.Stopped

unfoldable pub ran_back : Running → Ran
ran_back r = record { answer = answer_back r.outcome; counts = r.counts; steps = r.steps }
