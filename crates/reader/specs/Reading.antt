-- What reading gives and leaves (document 01, "Reading and writing", "Numbers given back"), as a function of the text and the
-- two tables that are lent. What the tables hold makes no difference.
-- Assumes nothing.
use Rattle.std.specs.Prelude.{◌≡◌, Bool, false, cond, ◌&&◌, List, ℕ, leb, eqb, length, Result, Ok, Err}
use Rattle.qdimacs.specs.Read as qdimacs
use Rattle.meaning.specs.WellFormed.{max_text}
use Rattle.qdimacs.specs.Faults.{LENGTH, SYNTAX, SHORT, RANGE, TWICE, UNBOUND, COUNT, TOO-BIG}
use Rattle.qdimacs.specs.Read.{complete, fault, good, read}
use Rattle.table.specs.Table.{empty_formula, table_of, counts_of}
use Rattle.table.specs.Lent.{right_lengths}
use Rattle.table.specs.declared.Counts.{Counts}
use Rattle.reader.specs.declared.ReadAnswer.{ReadAnswer}
use Rattle.reader.specs.declared.ReadAnswer.TheVariants.{Read, Length, Syntax, Short, Range, Twice, Unbound, Count, TooBig}
use Rattle.reader.specs.declared.Reading.{Reading}
use Rattle.tracks.specs.declared.Reader.{Reader}
use Rattle.reader.specs.declared.turns.Fault.{Fault}

-- the numbers of the answers
unfoldable pub read_number : ReadAnswer → ℕ
read_number Read = 0
read_number Length = LENGTH
read_number Syntax = SYNTAX
read_number Short = SHORT
read_number Range = RANGE
read_number Twice = TWICE
read_number Unbound = UNBOUND
read_number Count = COUNT
read_number TooBig = TOO-BIG

-- the answer with this number
unfoldable pub answer_for : ℕ → ReadAnswer
answer_for k =
    cond (eqb k LENGTH) Length
    (cond (eqb k SYNTAX) Syntax
    (cond (eqb k SHORT) Short
    (cond (eqb k RANGE) Range
    (cond (eqb k TWICE) Twice
    (cond (eqb k UNBOUND) Unbound
    (cond (eqb k COUNT) Count TooBig))))))

-- What is given -----------------------------------------------------------------------------------------------
-- "counts zero", "its record names the first, refused or not"
unfoldable pub refusal : ℕ → ℕ → Reading
refusal k at = record { answer = answer_for k; offset = at; counts = counts_of empty_formula false }

unfoldable pub reading_for : qdimacs.Answer → Reading
reading_for (fault k at) = refusal k at
reading_for (good φ) = record { answer = Read; offset = 0; counts = counts_of φ false }

-- "a table isn't 11,261 long, text too long" is LENGTH; this is the opposite
unfoldable pub lengths_right : List ℕ → List ℕ → List ℕ → Bool
lengths_right text first second = right_lengths first second && leb (length text) max_text

unfoldable pub reading_of : List ℕ → List ℕ → List ℕ → Reading
reading_of text first second = cond (lengths_right text first second) (reading_for (read text)) (refusal LENGTH 0)

-- What is left ------------------------------------------------------------------------------------------------
-- "both tables zero" after a refusal but LENGTH, which has "nothing written"
unfoldable pub table_for : qdimacs.Answer → List ℕ
table_for (fault k at) = table_of empty_formula
table_for (good φ) = table_of φ

unfoldable pub first_after : List ℕ → List ℕ → List ℕ → List ℕ
first_after text first second = cond (lengths_right text first second) (table_for (read text)) first

unfoldable pub second_after : List ℕ → List ℕ → List ℕ → List ℕ
second_after text first second = cond (lengths_right text first second) (table_of empty_formula) second

-- the tables a and b are left as a' and b'
pub record Reads (text a b : List ℕ) (r : Reading) (a' b' : List ℕ) : Type 0 where
  pub answer : r ≡ reading_of text a b
  pub first : a' ≡ first_after text a b
  pub second : b' ≡ second_after text a b

-- Without the lengths, before the first table is zeroed again -------------------------------------------------
unfoldable pub outcome_of : qdimacs.Answer → Result Counts Fault
outcome_of (fault k at) = Err (record { number = k; offset = at })
outcome_of (good φ) = Ok (counts_of φ false)

unfoldable pub concluded : Reader → ℕ → Result Counts Fault
concluded r n = cond (complete r.phase r.c) (Ok r.counts) (Err (record { number = SHORT; offset = n }))

abbrev pub Left : qdimacs.Answer → List ℕ → Type 0
Left (fault k at) t = Unit {0}
Left (good φ) t = t ≡ table_of φ

pub record Filled (text : List ℕ) (o : Result Counts Fault) (t : List ℕ) : Type 0 where
  pub outcome : o ≡ outcome_of (read text)
  pub left : Left (read text) t
