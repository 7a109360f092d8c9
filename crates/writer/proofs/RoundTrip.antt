-- What the contract of `write` gives its callers: it decides everything; a good table is written into an output that is long
-- enough, and 65,536 bytes always are; reading the bytes that were written gives the formula of the table.
-- Assumes nothing.
use mathlib.Core.Path.{◌≡◌, refl, sym, ap, ◌∙◌}
use mathlib.Core.Bool.{true}
use mathlib.Core.List.{List, ◌++◌}
use Prim.Native.Nat.{ℕ, ◌≤◌}
use native.Mathlib.Omega.{arith}
use borrow.Author.Tests.{leb-true, le-leb}
use lib.Dec.{leb}
use lib.ListN.{length, take, drop}
use lib.Seq.{take_at}
use Rattle.judging.specs.declared.Unfit.TheVariants as said
use Rattle.std.specs.Prelude.{Ok, Err}
use Rattle.writer.specs.declared.WriteAnswer.TheVariants as says
use Rattle.meaning.specs.WellFormed.{well_formed, fits, max_text}
use Rattle.qdimacs.specs.Read.{good, read}
use Rattle.table.specs.Table.{decode}
use Rattle.table.specs.Lent.{named, right_lengths}
use Rattle.judging.specs.Check.{layout_holds, good_table, Asked, judged, asked}
use Rattle.table.specs.declared.Counts.{Counts}
use Rattle.writer.specs.Written.{answer_for, bytes_for, output_for, writing_for, text_of, answer_of, writing_of, output_of, Wrote}
use Rattle.writer.specs.declared.Writing.{Writing}
use Rattle.meaning.proofs.Basics.{by_cases, and_l, and_r}
use Rattle.qdimacs.proofs.Sizes.{write-short}
use Rattle.qdimacs.proofs.Trip.{round_trip}
use Rattle.judging.proofs.GoodLaws.{true-holds}

-- a call is answered Written only if nothing is said against the tables and the text has room
answered : (a : Asked) (text out : List ℕ) → answer_for a text out ≡ says.Written → (a ≡ Ok tt) × (length text ≤ length out)
unfolding answer_for
answered (Ok u) text out e = (
  refl,
  by_cases (leb (length text) (length out)) (λ h. leb-true (length text) (length out) h)
      (λ h. let z : says.NoRoom ≡ says.Written = rw h at e in let w : ◌≡◌ {A = ℕ} 0 1 = cc in absurd (omega arith)),
)
answered (Err said.WrongLength) text out e = let w : ◌≡◌ {A = ℕ} 0 1 = cc in absurd (omega arith)
answered (Err said.Malformed) text out e = let w : ◌≡◌ {A = ℕ} 0 1 = cc in absurd (omega arith)

module _ (first second : List ℕ) (c : Counts) where
  -- nothing is said against the tables: the one that the record names is good; and the other way, where the lengths are right
  pub given-good : asked first second c ≡ Ok tt → good_table (named first second c) c ≡ true
  unfolding asked judged
  given-good e =
      by_cases (good_table (named first second c) c) (λ g. g)
      (λ g.
      by_cases (right_lengths first second)
      (λ l. let z : ◌≡◌ {A = Asked} (Err said.Malformed) (Ok tt) = rw (l, g) at e in let w : ◌≡◌ {A = ℕ} 0 1 = cc in absurd (omega arith))
      (λ l. let z : ◌≡◌ {A = Asked} (Err said.WrongLength) (Ok tt) = rw l at e in let w : ◌≡◌ {A = ℕ} 0 1 = cc in absurd (omega arith)))

  pub good-given : right_lengths first second ≡ true → good_table (named first second c) c ≡ true → asked first second c ≡ Ok tt
  unfolding asked judged
  good-given l g = rw (l, g)

  -- the formula of a good table
  module _ (g : good_table (named first second c) c ≡ true) where
    formula-good : well_formed (decode (named first second c) c) ≡ true
    unfolding good_table
    formula-good = and_r (layout_holds (named first second c) c) (well_formed (decode (named first second c) c)) g

    formula-fits : fits (decode (named first second c) c) ≡ true
    unfolding good_table
    formula-fits =
        (true-holds (named first second c) c (and_l (layout_holds (named first second c) c) (well_formed (decode (named first second c) c)) g)).fitting

    -- its text is no longer than a text may be, and reads back
    pub text-short : length (text_of first second c) ≤ max_text
    unfolding text_of
    text-short = write-short (decode (named first second c) c) formula-good formula-fits

    pub text-reads : read (text_of first second c) ≡ good (decode (named first second c) c)
    unfolding text_of
    text-reads = round_trip (decode (named first second c) c) formula-good formula-fits

  -- A call that meets the contract -----------------------------------------------------------------------------
  module _ (out : List ℕ) (r : Writing) (after : List ℕ) (w : Wrote first second c out r after) where
    -- it is the only one
    pub wrote-once : (r' : Writing) (after' : List ℕ) → Wrote first second c out r' after' → (r ≡ r') × (after ≡ after')
    wrote-once r' after' v = (w.result ∙ sym v.result, w.output ∙ sym v.output)

    answer-is : r.answer ≡ answer_of first second c out
    unfolding writing_of writing_for
    answer-is = ap (λ (x : Writing). x.answer) w.result

    -- a good table and room for its text: the answer and the number of bytes
    module _ (l : right_lengths first second ≡ true) (g : good_table (named first second c) c ≡ true) (f : length (text_of first second c) ≤ length out) where
      answer-written : answer_of first second c out ≡ says.Written
      unfolding answer_of answer_for
      answer-written = rw (good-given l g, le-leb (length (text_of first second c)) (length out) f)

      pub wrote-answer : r ≡ record { answer = says.Written; bytes = length (text_of first second c) }
      unfolding writing_of writing_for bytes_for
      wrote-answer = w.result ∙ rw answer-written

    -- 65,536 bytes are room for every text
    pub wrote-always : right_lengths first second ≡ true → good_table (named first second c) c ≡ true → max_text ≤ length out → r.answer ≡ says.Written
    wrote-always l g f = ap (λ (x : Writing). x.answer) (wrote-answer l g (omega (arith, text-short g)))

    -- the round trip
    module _ (e : r.answer ≡ says.Written) where
      written : answer_of first second c out ≡ says.Written
      written = sym answer-is ∙ e

      pub wrote-good : good_table (named first second c) c ≡ true
      unfolding answer_of
      wrote-good = given-good (answered (asked first second c) (text_of first second c) out written).0

      bytes-are : r.bytes ≡ length (text_of first second c)
      unfolding writing_of writing_for bytes_for
      bytes-are = ap (λ (x : Writing). x.bytes) w.result ∙ rw written

      after_is : take r.bytes after ≡ text_of first second c
      unfolding output_of output_for
      after_is =
          let z : after ≡ text_of first second c ++ drop (length (text_of first second c)) out = w.output ∙ rw written in
          rw (bytes-are, z) (take_at (text_of first second c) (drop (length (text_of first second c)) out) (length (text_of first second c)) refl)

      pub wrote-reads : read (take r.bytes after) ≡ good (decode (named first second c) c)
      wrote-reads = ap read after_is ∙ text-reads wrote-good
