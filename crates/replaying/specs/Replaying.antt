-- What a replay gives and leaves (document 01, "Numbers given back"): the answer, the record, the number of entries applied and
-- both tables after it, for any two tables, any record and any log.
-- Assumes nothing.
use Rattle.std.specs.Prelude.{◌≡◌, Bool, List, ℕ, Option, Some, None, Ok, Err}
use Rattle.apply.specs.declared.Refusal.{Refusal}
use Rattle.replaying.specs.declared.stepping.StepAnswer.TheVariants as says
use Rattle.rules.specs.Run as rules
use Rattle.rules.specs.Run.{all_applied, refused_by, replay_bytes}
use Rattle.table.specs.Table.{counts_of}
use Rattle.judging.specs.Check.{Asked, asked}
use Rattle.table.specs.declared.Counts.{Counts}
use Rattle.course.specs.Course.{side_from}
use Rattle.course.specs.declared.Replaying.{Replaying}
use Rattle.standing.specs.Standing.{formula_in, first_left, second_left}
use Rattle.replaying.specs.Stepping.{refusal_answer, refused_back, unfit_answer}
use Rattle.replaying.specs.declared.stepping.StepAnswer.{StepAnswer}
use Rattle.replaying.specs.declared.replays.Replayed.{Replayed}

-- "Replay stops at the first refused entry, gives its refusal"
unfoldable pub stop_answer : rules.Stop → StepAnswer
stop_answer all_applied = says.Done
stop_answer (refused_by y) = refusal_answer y

-- One call, by what is said of the tables and by the replay x: ".. and the number applied"; with 1 and 2 "the record comes back as
-- lent, with 0 steps"
unfoldable pub replayed_for : Asked → Counts → rules.Replayed → Replayed
replayed_for (Ok u) c x =
    record { answer = stop_answer x.stop; counts = counts_of x.formula (side_from c.second x.applied); applied = x.applied }
replayed_for (Err u) c x = record { answer = unfit_answer u; counts = c; applied = 0 }

-- The call -----------------------------------------------------------------------------------------------------
unfoldable pub replay_in : List ℕ → List ℕ → Counts → List ℕ → rules.Replayed
replay_in first second c log = replay_bytes (formula_in first second c) log

-- ".. and leaves the formula after those": its side
unfoldable pub side_replayed : Counts → rules.Replayed → Bool
side_replayed c x = side_from c.second x.applied

-- the tables a and b are left as a' and b'
pub record Replays (a b : List ℕ) (c : Counts) (log : List ℕ) (r : Replayed) (a' b' : List ℕ) : Type 0 where
  pub given : r ≡ replayed_for (asked a b c) c (replay_in a b c log)
  pub first : a' ≡ first_left (asked a b c) a (side_replayed c (replay_in a b c log)) (replay_in a b c log).formula
  pub second : b' ≡ second_left (asked a b c) b (side_replayed c (replay_in a b c log)) (replay_in a b c log).formula

-- What the replay between the tables comes to, given back -------------------------------------------------------
unfoldable pub stop_back : Option Refusal → StepAnswer
stop_back None = says.Done
stop_back (Some x) = refused_back x

unfoldable pub replayed_back : Replaying → Replayed
replayed_back r = record { answer = stop_back r.stop; counts = r.counts; applied = r.applied }
