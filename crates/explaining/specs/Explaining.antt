-- What a question after a variable gives and leaves (request 2, "Say why this one is left"; document 01, "Numbers given back"): the answer,
-- the record and both tables after it, for any two tables, any record, any variable and any allowance.
-- Assumes nothing.
use Rattle.std.specs.Prelude.{◌≡◌, Bool, true, false, List, ℕ, leb, Ok, Err}
use Rattle.judging.specs.declared.Unfit.TheVariants as said
use Rattle.judging.specs.declared.Unfit.{Unfit}
use Rattle.reasoning.specs.declared.Why.TheVariants as came
use Rattle.explaining.specs.declared.explains.ReasonAnswer.TheVariants as says
use Rattle.meaning.specs.Formula.{Formula, mentions}
use Rattle.reasons.specs.Reason.{Limit, of_variables, of_clauses, of_literals, Reason, verdict, next_entry, own_entry, too_far_right, not_lighter, between, too_heavy, over_limit, reason_of}
use Rattle.judging.specs.Check.{Asked, asked}
use Rattle.table.specs.declared.Counts.{Counts}
use Rattle.reasoning.specs.declared.Why.{Why}
use Rattle.standing.specs.Standing.{formula_in, first_for, second_for}
use Rattle.explaining.specs.declared.explains.ReasonAnswer.{ReasonAnswer}
use Rattle.explaining.specs.declared.explains.Reasoned.{Reasoned}

-- document 01's number of an answer: verdicts and refusals have one, the other reasons have 0
unfoldable pub reason_number : ReasonAnswer → ℕ
reason_number says.True = 20
reason_number says.False = 21
reason_number (says.NextEntry e) = 0
reason_number (says.OwnEntry e) = 0
reason_number (says.TooFarRight i y u) = 0
reason_number (says.NotLighter m n) = 0
reason_number (says.Between e u) = 0
reason_number (says.TooHeavy m n) = 0
reason_number says.OverVariables = 0
reason_number says.OverClauses = 0
reason_number says.OverLiterals = 0
reason_number says.Length = 1
reason_number says.Malformed = 2
reason_number says.Allowance = 13
reason_number says.NotPermitted = 10

-- the answer that gives a reason
unfoldable pub limit_answer : Limit → ReasonAnswer
limit_answer of_variables = says.OverVariables
limit_answer of_clauses = says.OverClauses
limit_answer of_literals = says.OverLiterals

unfoldable pub reason_answer : Reason → ReasonAnswer
reason_answer (verdict true) = says.True
reason_answer (verdict false) = says.False
reason_answer (next_entry e) = says.NextEntry e
reason_answer (own_entry e) = says.OwnEntry e
reason_answer (too_far_right i y u) = says.TooFarRight i y u
reason_answer (not_lighter m n) = says.NotLighter m n
reason_answer (between e u) = says.Between e u
reason_answer (too_heavy m n) = says.TooHeavy m n
reason_answer (over_limit l) = limit_answer l

-- What is said of a call: "a variable not in the prefix is 10, after 1, 2 and 13" -------------------------------
unfoldable pub answer_there : Bool → Reason → ReasonAnswer
answer_there true x = reason_answer x
answer_there false x = says.NotPermitted

-- of the variable v, where the tables and the allowance E are right
unfoldable pub answer_on : Formula → ℕ → ℕ → ReasonAnswer
answer_on φ v E = answer_there (mentions φ.prefix v) (reason_of E φ v)

pub data Heard : Type 0 where
  looks : Heard
  refuses : ReasonAnswer → Heard

unfoldable pub heard_of : Bool → Heard
heard_of true = looks
heard_of false = refuses says.Allowance

-- the answer to a call that is refused for the tables
abbrev pub unfit_answer : Unfit → ReasonAnswer
unfit_answer said.WrongLength = says.Length
unfit_answer said.Malformed = says.Malformed

unfoldable pub heard_for : Asked → ℕ → Heard
heard_for (Ok u) E = heard_of (leb E 1000)
heard_for (Err u) E = refuses (unfit_answer u)

unfoldable pub heard_in : List ℕ → List ℕ → Counts → ℕ → Heard
heard_in first second c E = heard_for (asked first second c) E

-- What is given and left -----------------------------------------------------------------------------------------
unfoldable pub answer_for : Heard → ReasonAnswer → ReasonAnswer
answer_for looks x = x
answer_for (refuses r) x = r

-- the formula stays on its side, and "the spare table ends zero"; with 1, 2 and 13 "nothing written"
unfoldable pub first_after : Heard → List ℕ → Bool → Formula → List ℕ
first_after looks a s φ = first_for s φ
first_after (refuses r) a s φ = a

unfoldable pub second_after : Heard → List ℕ → Bool → Formula → List ℕ
second_after looks b s φ = second_for s φ
second_after (refuses r) b s φ = b

-- The call: the tables a and b are left as a' and b' -----------------------------------------------------------
pub record Explains (a b : List ℕ) (c : Counts) (v E : ℕ) (r : Reasoned) (a' b' : List ℕ) : Type 0 where
  pub given : r ≡ record { answer = answer_for (heard_in a b c E) (answer_on (formula_in a b c) v E); counts = c }
  pub first : a' ≡ first_after (heard_in a b c E) a c.second (formula_in a b c)
  pub second : b' ≡ second_after (heard_in a b c E) b c.second (formula_in a b c)

-- What the crate below says, given back --------------------------------------------------------------------------
unfoldable pub why_back : Why → ReasonAnswer
why_back came.True = says.True
why_back came.False = says.False
why_back (came.NextEntry e) = says.NextEntry e
why_back (came.OwnEntry e) = says.OwnEntry e
why_back (came.TooFarRight i y u) = says.TooFarRight i y u
why_back (came.NotLighter m n) = says.NotLighter m n
why_back (came.Between e u) = says.Between e u
why_back (came.TooHeavy m n) = says.TooHeavy m n
why_back came.OverVariables = says.OverVariables
why_back came.OverClauses = says.OverClauses
why_back came.OverLiterals = says.OverLiterals
