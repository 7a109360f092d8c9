-- What each exported call gives and leaves: that of the face's call with the record lent, the answer as document 01's number.
-- a and b are the tables, l the record and n the number given; a', b' and l' are the tables and the record as they are left.
-- Assumes nothing.
use Rattle.std.specs.Prelude.{◌≡◌, Bool, true, false, cond, List, [], ℕ}
use Rattle.judging.specs.Check.{asked, asked_number, literals_part}
use Rattle.reader.specs.Reading.{Reads, read_number}
use Rattle.reader.specs.declared.Reading.{Reading}
use Rattle.writer.specs.Written.{Wrote, write_number}
use Rattle.writer.specs.declared.Writing.{Writing}
use Rattle.replaying.specs.Stepping.{Steps, step_number}
use Rattle.running.specs.Running.{Runs, run_number}
use Rattle.replaying.specs.Replaying.{Replays}
use Rattle.explaining.specs.Explaining.{Explains, reason_number}
use Rattle.replaying.specs.declared.stepping.Stepped.{Stepped}
use Rattle.running.specs.declared.runs.Ran.{Ran}
use Rattle.replaying.specs.declared.replays.Replayed.{Replayed}
use Rattle.explaining.specs.declared.explains.Reasoned.{Reasoned}
use Rattle.exports.specs.Records.{side_known, counts_in, record_of, side_number, as_lent, no_part, part_of, part_in}
use Rattle.explaining.specs.Values.{reason_kind, reason_values, no_values}

-- A call whose record names a table is the face's; any other is refused. -----------------------------------------
abbrev pub Said : Bool → Type 0 → Type 0 → Type 0
Said true known refused = known
Said false known refused = refused

-- "nothing written"; "the record comes back as lent"
pub record Refused (a b l : List ℕ) (n : ℕ) (a' b' l' : List ℕ) : Type 0 where
  pub number : n ≡ side_number a b
  pub first : a' ≡ a
  pub second : b' ≡ b
  pub left : l' ≡ as_lent l

-- the same where there is an output or a log, x, which is left as x'
pub record RefusedWith (a b l x : List ℕ) (n : ℕ) (a' b' l' x' : List ℕ) : Type 0 where
  pub refused : Refused a b l n a' b' l'
  pub bytes : x' ≡ x

-- Reading: the record is given back, with the offset ------------------------------------------------------------
pub record ReadCall (text a b : List ℕ) (n : ℕ) (a' b' l' : List ℕ) : Type 0 where
  pub given : Reading
  pub face : Reads text a b given a' b'
  pub number : n ≡ read_number given.answer
  pub left : l' ≡ record_of given.counts given.offset

-- Writing: the record as lent, with the number of bytes ----------------------------------------------------------
pub record Write (a b l out : List ℕ) (n : ℕ) (l' out' : List ℕ) : Type 0 where
  pub given : Writing
  pub face : Wrote a b (counts_in l) out given out'
  pub number : n ≡ write_number given.answer
  pub left : l' ≡ record_of (counts_in l) given.bytes

abbrev pub WriteCall : List ℕ → List ℕ → List ℕ → List ℕ → ℕ → List ℕ → List ℕ → Type 0
WriteCall a b l out n l' out' = Said (side_known l) (Write a b l out n l' out') (RefusedWith a b l out n a b l' out')

-- The literals: the place p' of the part, and the number of the call ---------------------------------------------
unfoldable pub place_asked : List ℕ → List ℕ → List ℕ → List ℕ
place_asked a b l = cond (side_known l) (part_of (asked a b (counts_in l)) (counts_in l)) no_part

unfoldable pub literals_asked : List ℕ → List ℕ → List ℕ → List ℕ
literals_asked a b l = cond (side_known l) (literals_part a b (counts_in l)) []

unfoldable pub number_asked : List ℕ → List ℕ → List ℕ → ℕ
number_asked a b l = cond (side_known l) (asked_number (asked a b (counts_in l))) (side_number a b)

-- the place, and that the literals stand there
pub record LiteralsCall (a b l p' : List ℕ) : Type 0 where
  pub place : p' ≡ place_asked a b l
  pub stands : part_in a b p' ≡ literals_asked a b l

-- A step: the record given back, with 0 --------------------------------------------------------------------------
pub record Step (a b l : List ℕ) (entry n : ℕ) (a' b' l' : List ℕ) : Type 0 where
  pub given : Stepped
  pub face : Steps a b (counts_in l) entry given a' b'
  pub number : n ≡ step_number given.answer
  pub left : l' ≡ record_of given.counts 0

abbrev pub StepCall : List ℕ → List ℕ → List ℕ → ℕ → ℕ → List ℕ → List ℕ → List ℕ → Type 0
StepCall a b l entry n a' b' l' = Said (side_known l) (Step a b l entry n a' b' l') (Refused a b l n a' b' l')

-- A run: the record given back, with the number of steps ---------------------------------------------------------
pub record Run (a b l : List ℕ) (E limit : ℕ) (log : List ℕ) (n : ℕ) (a' b' l' log' : List ℕ) : Type 0 where
  pub given : Ran
  pub face : Runs a b (counts_in l) E limit log given a' b' log'
  pub number : n ≡ run_number given.answer
  pub left : l' ≡ record_of given.counts given.steps

abbrev pub RunCall : List ℕ → List ℕ → List ℕ → ℕ → ℕ → List ℕ → ℕ → List ℕ → List ℕ → List ℕ → List ℕ → Type 0
RunCall a b l E limit log n a' b' l' log' =
    Said (side_known l) (Run a b l E limit log n a' b' l' log') (RefusedWith a b l log n a' b' l' log')

-- A replay: the record given back, with the number of entries applied --------------------------------------------
pub record Replay (a b l log : List ℕ) (n : ℕ) (a' b' l' : List ℕ) : Type 0 where
  pub given : Replayed
  pub face : Replays a b (counts_in l) log given a' b'
  pub number : n ≡ step_number given.answer
  pub left : l' ≡ record_of given.counts given.applied

abbrev pub ReplayCall : List ℕ → List ℕ → List ℕ → List ℕ → ℕ → List ℕ → List ℕ → List ℕ → Type 0
ReplayCall a b l log n a' b' l' = Said (side_known l) (Replay a b l log n a' b' l') (Refused a b l n a' b' l')

-- A reason: the record as lent, with the kind; and the values, left in p' whatever stood there -------------------
pub record Reason (a b l : List ℕ) (v E n : ℕ) (a' b' l' p' : List ℕ) : Type 0 where
  pub given : Reasoned
  pub face : Explains a b (counts_in l) v E given a' b'
  pub number : n ≡ reason_number given.answer
  pub left : l' ≡ record_of given.counts (reason_kind given.answer)
  pub values : p' ≡ reason_values given.answer

pub record NoReason (a b l : List ℕ) (n : ℕ) (a' b' l' p' : List ℕ) : Type 0 where
  pub refused : Refused a b l n a' b' l'
  pub values : p' ≡ no_values

abbrev pub ReasonCall : List ℕ → List ℕ → List ℕ → ℕ → ℕ → ℕ → List ℕ → List ℕ → List ℕ → List ℕ → Type 0
ReasonCall a b l v E n a' b' l' p' = Said (side_known l) (Reason a b l v E n a' b' l' p') (NoReason a b l n a' b' l' p')
