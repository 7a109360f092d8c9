-- The proved set of document 01, "Checks at the edges", as one table: each row asks something of a text and says what comes of
-- it. Formulas stand in the table as QDIMACS text, on both sides. `proofs/Edges.antt` proves the table.
-- Assumes nothing.
use Rattle.std.specs.Prelude.{ℕ, ◌*◌, Bool, true, false, List, [], ◌∷◌, length}
use Prim.Native.String.{String}
use Rattle.meaning.specs.Formula.{Formula}
use Rattle.meaning.specs.Game.{is_true}
use Rattle.meaning.specs.WellFormed.{literals}
use Rattle.rules.specs.Entry.{Kind, pure, equality, resolve, expand, entry, entry_bytes}
use Rattle.rules.specs.Step.{StepAnswer, refused, stepped, refusal_number, step_of}
use Rattle.rules.specs.Run.{Ran, run, outcome_number}
use Rattle.qdimacs.specs.Read.{Answer, fault, good, read}
use Rattle.qdimacs.specs.Write.{write}
use Rattle.qdimacs.proofs.Quoted.{bytes_of}

-- what is asked of the formula in a text: to be read; its literals, counted; its truth; the program's run (E = 0, limit and log
-- of 8,192 entries); a step, by its entry; that entry, as the bytes of the log
pub data Question : Type 0 where
  reading counting judging running : Question
  stepping entering : Kind → ℕ → ℕ → Question

pub data Reply : Type 0 where
  is_fault : ℕ → ℕ → Reply
  is_formula is_bytes : List ℕ → Reply
  is_number : ℕ → Reply
  is_truth : Bool → Reply
  is_refused : ℕ → Reply
  is_outcome : ℕ → ℕ → List ℕ → Reply

unfoldable pub on_step : StepAnswer → Reply
on_step (refused r) = is_refused (refusal_number r)
on_step (stepped φ) = is_formula (write φ)

unfoldable pub on_run : Ran → Reply
on_run r = is_outcome (outcome_number r.outcome) (length r.log) (write r.final)

unfoldable pub on_formula : Question → Formula → Reply
on_formula reading φ = is_formula (write φ)
on_formula counting φ = is_number (literals φ.clauses)
on_formula judging φ = is_truth (is_true φ)
on_formula running φ = on_run (run 0 8192 (8192 * 4) φ)
on_formula (stepping k a b) φ = on_step (step_of φ (entry k a b))
on_formula (entering k a b) φ = is_bytes (entry_bytes (entry k a b))

unfoldable pub on_answer : Question → Answer → Reply
on_answer q (fault k at) = is_fault k at
on_answer q (good φ) = on_formula q φ

unfoldable pub ask : Question → String → Reply
ask q text = on_answer q (read (bytes_of text))

-- The table --------------------------------------------------------------------------------------------------
pub record Row : Type 0 where
  pub question : Question
  pub text : String
  pub reply : Reply

abbrev pub formula6 : String
formula6 = "p cnf 5 5 e 1 2 3 4 5 0 5 -1 0 5 1 3 0 5 -4 0 -5 1 0 -5 2 4 0"

abbrev pub formula7 : String
formula7 = "p cnf 2 2 a 1 0 e 2 0 1 2 0 -1 -2 0"

abbrev pub formula8 : String
formula8 = "p cnf 2 2 a 1 0 e 2 0 1 2 0 1 -2 0"

abbrev pub formula9 : String
formula9 = "p cnf 3 4\ne 1 0\na 2 0\ne 3 0\n2 -3 0\n-2 3 0\n-1 3 0\n1 -3 0\n"

abbrev pub result6 : String
result6 = "p cnf 4 4\ne 1 2 3 4 0\n-1 2 4 0\n1 3 0\n1 2 3 4 0\n1 -4 0\n"

unfoldable pub table : List Row
table =
    -- P1 empty text: SHORT at 0
    record { question = reading; text = ""; reply = is_fault 4 0 } ∷
    -- P2 `p cnf 0 0`: TRUE, 0 steps
    record { question = running; text = "p cnf 0 0"; reply = is_outcome 20 0 (bytes_of "p cnf 0 0\n") } ∷
    -- P3 `p cnf 0 1 0`: FALSE
    record { question = running; text = "p cnf 0 1 0"; reply = is_outcome 21 0 (bytes_of "p cnf 0 1\n0\n") } ∷
    -- P4: reads as the empty clause
    record { question = reading; text = "p cnf 1 1 a 1 0 1 0"; reply = is_formula (bytes_of "p cnf 1 1\na 1 0\n0\n") } ∷
    -- P5: no clause
    record { question = reading; text = "p cnf 1 1 e 1 0 1 -1 0"; reply = is_formula (bytes_of "p cnf 1 0\ne 1 0\n") } ∷
    -- P6 resolve 5; literals 12 to 11
    record { question = stepping resolve 5 0; text = formula6; reply = is_formula (bytes_of result6) } ∷
    record { question = counting; text = formula6; reply = is_number 12 } ∷
    record { question = counting; text = result6; reply = is_number 11 } ∷
    -- P7 expand 1; without renaming it would become (2)(-2), which is false, and it is true
    record { question = stepping expand 1 0; text = formula7; reply = is_formula (bytes_of "p cnf 3 2\ne 2 3 0\n2 0\n-3 0\n") } ∷
    record { question = judging; text = formula7; reply = is_truth true } ∷
    -- P8 pure 1; with the literal made true no clause would be left, which is true, and it is false
    record { question = stepping pure 1 0; text = formula8; reply = is_formula (bytes_of "p cnf 2 2\ne 2 0\n2 0\n-2 0\n") } ∷
    record { question = judging; text = formula8; reply = is_truth false } ∷
    -- P9 resolve 1: NOT PERMITTED; it is false, and without the clauses of 1 the rest is true
    record { question = stepping resolve 1 0; text = formula9; reply = is_refused 10 } ∷
    record { question = judging; text = formula9; reply = is_truth false } ∷
    record { question = judging; text = "p cnf 3 2 a 2 0 e 3 0 2 -3 0 -2 3 0"; reply = is_truth true } ∷
    -- P10 the entry for the equality of its clauses 0 and 1: A0 00 00 80; the step is permitted
    record { question = entering equality 0 1; text = formula9; reply = is_bytes (0xa0 ∷ 0x00 ∷ 0x00 ∷ 0x80 ∷ []) } ∷
    record { question = stepping equality 0 1; text = formula9; reply = is_formula (bytes_of "p cnf 2 2\ne 1 0\na 2 0\n-1 0\n1 0\n") } ∷
    -- what the program prints of it
    record { question = running; text = formula9; reply = is_outcome 21 2 (bytes_of "p cnf 2 1\na 2 0\n0\n") } ∷
    []
