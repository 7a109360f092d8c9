-- The answers of the writer: what is told of one table, and of the call.
-- Assumes nothing.
use mathlib.Core.Path.{◌≡◌, ap, ◌∙◌}
use mathlib.Core.Bool.{true, false}
use mathlib.Core.List.{List}
use Prim.Native.Nat.{ℕ, ◌≤◌, ◌<◌}
use native.Mathlib.Nat.{zero-add}
use native.Mathlib.Omega.{arith}
use borrow.Author.Tests.{le-leb, lt-leb}
use lib.Dec.{leb}
use lib.ListN.{length}
use lib.Seq.{sets-eq}
use Rattle.judging.specs.declared.Unfit.{Unfit}
use Rattle.judging.specs.declared.Unfit.TheVariants as said
use Rattle.std.specs.Prelude.{Ok, Err}
use Rattle.writer.specs.declared.WriteAnswer.TheVariants as says
use Rattle.qdimacs.specs.Write.{write}
use Rattle.table.specs.Table.{decode}
use Rattle.table.specs.Lent.{named, right_lengths}
use Rattle.judging.specs.Check.{good_table, Asked, judged, asked}
use Rattle.table.specs.declared.Counts.{Counts}
use Rattle.lines.specs.Written.{Room, Written, Sized}
use Rattle.writer.specs.Written.{most_text, unfit_answer, answer_for, bytes_for, output_for, writing_for, Told, text_of, answer_of, writing_of, output_of, write_number, number_of, Wrote}
use Rattle.writer.specs.declared.Writing.{Writing}
use Rattle.meaning.proofs.Basics.{by_cases}

-- One table ----------------------------------------------------------------------------------------------------
module _ (text out : List ℕ) (n : ℕ) (s : Sized text most_text n) where
  pub told-no-room : length out < n → Told (Ok tt) text out (record { answer = says.NoRoom; bytes = 0 }) out
  unfolding answer_for writing_for bytes_for output_for
  told-no-room h =
      let e : leb (length text) (length out) ≡ false = lt-leb (length text) (length out) (omega (arith, s.is)) in
      record { result = rw e; output = rw e }

  pub told-room : n ≤ length out → Room text 0 out
  told-room h = record { fits = omega (arith, s.is) }

  pub told-written : n ≤ length out → (after : List ℕ) (r : ℕ) → Written text 0 out after r → Told (Ok tt) text out (record { answer = says.Written; bytes = r }) after
  unfolding answer_for writing_for bytes_for output_for
  told-written h after r w =
      let b : length text ≤ length out = omega (arith, s.is) in
      let e : leb (length text) (length out) ≡ true = le-leb (length text) (length out) b in
      let z : r ≡ length text = omega (arith, w.place) in
      record { result = rw (e, z); output = rw e (w.bytes ∙ sets-eq text out 0 (omega arith) ∙ rw (zero-add (length text))) }

-- The call -----------------------------------------------------------------------------------------------------
module _ (first second : List ℕ) (c : Counts) (out : List ℕ) where
  numbered : write_number (answer_of first second c out) ≡ number_of first second c out
  unfolding answer_of asked judged answer_for write_number number_of
  numbered =
      by_cases (right_lengths first second)
      (λ l.
      by_cases (good_table (named first second c) c)
      (λ g. by_cases (leb (length (text_of first second c)) (length out)) (λ f. rw (l, g, f)) (λ f. rw (l, g, f)))
      (λ g. rw (l, g)))
      (λ l. rw l)

  wrote : {r : Writing} {after : List ℕ} → r ≡ writing_of first second c out → after ≡ output_of first second c out → Wrote first second c out r after
  unfolding writing_of writing_for
  wrote {r} {after} e d =
      record { number = ap (λ (x : Writing). write_number x.answer) e ∙ numbered; result = e; output = d }

  -- what is said of the tables decides
  module _ (a : Asked) (q : a ≡ asked first second c) where
    -- refused
    pub wrote-unfit : (u : Unfit) → a ≡ Err u → Wrote first second c out (record { answer = unfit_answer u; bytes = 0 }) out
    unfolding writing_of output_of answer_of answer_for writing_for bytes_for output_for
    wrote-unfit said.WrongLength e = wrote (rw (← q, e)) (rw (← q, e))
    wrote-unfit said.Malformed e = wrote (rw (← q, e)) (rw (← q, e))

    -- t is the table that the record names
    pub wrote-told : a ≡ Ok tt → (t : List ℕ) → named first second c ≡ t → (r : Writing) (after : List ℕ) → Told (Ok tt) (write (decode t c)) out r after → Wrote first second c out r after
    unfolding writing_of output_of answer_of text_of
    wrote-told e t n r after w = wrote (rw (← q, e, n) w.result) (rw (← q, e, n) w.output)
