-- Writing into a lent output (document 01, "Reading and writing", "Numbers given back"): the answer, the number of bytes and
-- the output after it, for any two tables, any record and any output.
-- Assumes nothing.
use Rattle.std.specs.Prelude.{◌≡◌, cond, List, ◌++◌, ℕ, leb, length, drop, Ok, Err}
use Rattle.judging.specs.declared.Unfit.{Unfit}
use Rattle.judging.specs.declared.Unfit.TheVariants as said
use Rattle.writer.specs.declared.WriteAnswer.TheVariants as says
use Rattle.qdimacs.specs.Write.{write}
use Rattle.table.specs.Table.{decode}
use Rattle.table.specs.Lent.{named, right_lengths}
use Rattle.judging.specs.Check.{good_table, Asked, asked}
use Rattle.table.specs.declared.Counts.{Counts}
use Rattle.writer.specs.declared.WriteAnswer.{WriteAnswer}
use Rattle.writer.specs.declared.Writing.{Writing}

-- what the clauses of a table take at most (7 bytes for a literal, 2 for a clause), and the whole text (18 for the header, 10
-- for a variable): bounds of the counting, not of the text
abbrev pub most_clauses : ℕ
most_clauses = 61431

abbrev pub most_text : ℕ
most_text = 71679

-- One call, by what is said of the tables, the text and the output ---------------------------------------------
-- "Order: 1, 2, .. 11": NO ROOM is an "output buffer short"
-- what is answered to a call that is refused for the tables
abbrev pub unfit_answer : Unfit → WriteAnswer
unfit_answer said.WrongLength = says.Length
unfit_answer said.Malformed = says.Malformed

unfoldable pub answer_for : Asked → List ℕ → List ℕ → WriteAnswer
answer_for (Ok u) text out = cond (leb (length text) (length out)) says.Written says.NoRoom
answer_for (Err u) text out = unfit_answer u

-- how many bytes are written
unfoldable pub bytes_for : WriteAnswer → List ℕ → ℕ
bytes_for says.Written text = length text
bytes_for says.Length text = 0
bytes_for says.Malformed text = 0
bytes_for says.NoRoom text = 0

-- "Log and output bytes past the end of what was written stay"; a refusal leaves the output unchanged
unfoldable pub output_for : WriteAnswer → List ℕ → List ℕ → List ℕ
output_for says.Written text out = text ++ drop (length text) out
output_for says.Length text out = out
output_for says.Malformed text out = out
output_for says.NoRoom text out = out

unfoldable pub writing_for : WriteAnswer → List ℕ → Writing
writing_for a text = record { answer = a; bytes = bytes_for a text }

-- the answer r and the output after it are those of the call
pub record Told (a : Asked) (text out : List ℕ) (r : Writing) (after : List ℕ) : Type 0 where
  pub result : r ≡ writing_for (answer_for a text out) text
  pub output : after ≡ output_for (answer_for a text out) text out

-- The call -----------------------------------------------------------------------------------------------------
-- the text of the formula in the table that the record names
unfoldable pub text_of : List ℕ → List ℕ → Counts → List ℕ
text_of first second c = write (decode (named first second c) c)

unfoldable pub answer_of : List ℕ → List ℕ → Counts → List ℕ → WriteAnswer
answer_of first second c out = answer_for (asked first second c) (text_of first second c) out

-- the answer with the number of bytes, and the output after the call
unfoldable pub writing_of : List ℕ → List ℕ → Counts → List ℕ → Writing
writing_of first second c out = writing_for (answer_of first second c out) (text_of first second c)

unfoldable pub output_of : List ℕ → List ℕ → Counts → List ℕ → List ℕ
output_of first second c out = output_for (answer_of first second c out) (text_of first second c) out

-- document 01's number of an answer; 0 where nothing is refused
unfoldable pub write_number : WriteAnswer → ℕ
write_number says.Written = 0
write_number says.Length = 1
write_number says.Malformed = 2
write_number says.NoRoom = 11

-- the number of a call, in the order of the refusals: "a table isn't 11,261 long", "table and counts not a well formed formula",
-- "output buffer short"
unfoldable pub number_of : List ℕ → List ℕ → Counts → List ℕ → ℕ
number_of first second c out =
    cond (right_lengths first second)
    (cond (good_table (named first second c) c) (cond (leb (length (text_of first second c)) (length out)) 0 11) 2)
    1

-- what a call gives and leaves
pub record Wrote (first second : List ℕ) (c : Counts) (out : List ℕ) (r : Writing) (after : List ℕ) : Type 0 where
  pub number : write_number r.answer ≡ number_of first second c out
  pub result : r ≡ writing_of first second c out
  pub output : after ≡ output_of first second c out
