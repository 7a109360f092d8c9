-- What a step gives and leaves (document 01, "Steps", "Numbers given back"): the answer, the record and both tables after it, for
-- any two tables, any record and any entry.
-- Assumes nothing.
use Rattle.std.specs.Prelude.{◌≡◌, Bool, not, List, ℕ, Result, Ok, Err}
use Rattle.rules.specs.Step as rules
use Rattle.judging.specs.declared.Unfit.TheVariants as said
use Rattle.judging.specs.declared.Unfit.{Unfit}
use Rattle.apply.specs.declared.Refusal as told
use Rattle.apply.specs.declared.Refusal.TheVariants as came
use Rattle.replaying.specs.declared.stepping.StepAnswer.TheVariants as says
use Rattle.meaning.specs.Formula.{Formula}
use Rattle.rules.specs.Step.{Refusal, entry_bad, not_permitted, no_room, refused, stepped, step_of}
use Rattle.table.specs.Table.{counts_of}
use Rattle.judging.specs.Check.{Asked, asked}
use Rattle.table.specs.declared.Counts.{Counts}
use Rattle.apply.specs.Applied.{formula_after, side_after}
use Rattle.standing.specs.Standing.{formula_in, first_left, second_left}
use Rattle.replaying.specs.declared.stepping.StepAnswer.{StepAnswer}
use Rattle.replaying.specs.declared.stepping.Stepped.{Stepped}

-- document 01's number of an answer; 0 where nothing is refused
unfoldable pub step_number : StepAnswer → ℕ
step_number says.Done = 0
step_number says.Length = 1
step_number says.Malformed = 2
step_number says.BadEntry = 12
step_number says.NotPermitted = 10
step_number says.NoRoom = 11

-- One call, by what is said of the tables and by what comes of the step -----------------------------------------
unfoldable pub refusal_answer : Refusal → StepAnswer
refusal_answer entry_bad = says.BadEntry
refusal_answer not_permitted = says.NotPermitted
refusal_answer no_room = says.NoRoom

unfoldable pub step_answer : rules.StepAnswer → StepAnswer
step_answer (refused y) = refusal_answer y
step_answer (stepped ψ) = says.Done

-- "Order: 1, 2, .. 12, 10, 11"
-- the answer to a call that is refused for the tables
abbrev pub unfit_answer : Unfit → StepAnswer
unfit_answer said.WrongLength = says.Length
unfit_answer said.Malformed = says.Malformed

unfoldable pub answer_for : Asked → rules.StepAnswer → StepAnswer
answer_for (Ok u) x = step_answer x
answer_for (Err u) x = unfit_answer u

-- a refusal gives the record as it was lent, a step that of its result, which "stands in the other table"
unfoldable pub step_counts : Counts → rules.StepAnswer → Counts
step_counts c (refused y) = c
step_counts c (stepped ψ) = counts_of ψ (not c.second)

unfoldable pub counts_for : Asked → Counts → rules.StepAnswer → Counts
counts_for (Ok u) c x = step_counts c x
counts_for (Err u) c x = c

-- The call -----------------------------------------------------------------------------------------------------
-- the step that the entry calls, on the formula in the table that the record names
unfoldable pub step_in : List ℕ → List ℕ → Counts → ℕ → rules.StepAnswer
step_in first second c entry = step_of (formula_in first second c) entry

-- the formula after it, and its side: the other table after a step, the same after a refusal
unfoldable pub formula_left : List ℕ → List ℕ → Counts → ℕ → Formula
formula_left first second c entry = formula_after (formula_in first second c) (step_in first second c entry)

unfoldable pub side_left : List ℕ → List ℕ → Counts → ℕ → Bool
side_left first second c entry = side_after c.second (step_in first second c entry)

-- what is given
unfoldable pub answer_of : List ℕ → List ℕ → Counts → ℕ → StepAnswer
answer_of first second c entry = answer_for (asked first second c) (step_in first second c entry)

unfoldable pub counts_given : List ℕ → List ℕ → Counts → ℕ → Counts
counts_given first second c entry = counts_for (asked first second c) c (step_in first second c entry)

-- what is left: "A step's result stands in the other table; the one it came from is zeroed"; with 10, 11 and 12 "formula
-- unchanged", and "the spare table ends zero"; with 1 and 2 "nothing written"
unfoldable pub first_after : List ℕ → List ℕ → Counts → ℕ → List ℕ
first_after first second c entry =
    first_left (asked first second c) first (side_left first second c entry) (formula_left first second c entry)

unfoldable pub second_after : List ℕ → List ℕ → Counts → ℕ → List ℕ
second_after first second c entry =
    second_left (asked first second c) second (side_left first second c entry) (formula_left first second c entry)

-- the tables a and b are left as a' and b'
pub record Steps (a b : List ℕ) (c : Counts) (entry : ℕ) (r : Stepped) (a' b' : List ℕ) : Type 0 where
  pub answer : r.answer ≡ answer_of a b c entry
  pub counts : r.counts ≡ counts_given a b c entry
  pub first : a' ≡ first_after a b c entry
  pub second : b' ≡ second_after a b c entry

-- What the step between the tables comes to, given back ---------------------------------------------------------
unfoldable pub refused_back : told.Refusal → StepAnswer
refused_back came.BadEntry = says.BadEntry
refused_back came.NotPermitted = says.NotPermitted
refused_back came.NoRoom = says.NoRoom

unfoldable pub given_back : Result Counts told.Refusal → Counts → Stepped
given_back (Ok d) c = record { answer = says.Done; counts = d }
given_back (Err x) c = record { answer = refused_back x; counts = c }
