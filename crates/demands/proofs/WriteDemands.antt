-- `write`, from its contract alone: it meets its demands. Two outcomes that conform coincide by writer/proofs/RoundTrip.antt.
-- Assumes nothing.
use mathlib.Core.Path.{◌≡◌, refl, sym, ap, ◌∙◌}
use mathlib.Core.List.{List, ◌++◌}
use Prim.Native.Nat.{ℕ}
use native.Mathlib.Omega.{arith}
use lib.ListN.{length, take, drop}
use lib.Seq.{take_at, drop_at}
use Rattle.writer.specs.declared.WriteAnswer.TheVariants as says
use Rattle.judging.specs.Check.{asked}
use Rattle.table.specs.declared.Counts.{Counts}
use Rattle.writer.specs.Written.{write_number, bytes_for, output_for, writing_for, text_of, answer_of, writing_of, output_of, Wrote}
use Rattle.writer.specs.declared.WriteAnswer.{WriteAnswer}
use Rattle.writer.specs.declared.Writing.{Writing}
use Rattle.standing.specs.Standing.{formula_in}
use Rattle.demands.specs.Demands.{WriteDemands}
use Rattle.writer.proofs.RoundTrip.{given-good, text-short, wrote-answer, wrote-reads}
use Rattle.standing.proofs.LentLaws.{right}

-- only Written has the number 0
pub numbered : (x : WriteAnswer) → write_number x ≡ 0 → x ≡ says.Written
unfolding write_number
numbered says.Written e = refl
numbered says.Length e = absurd (omega arith)
numbered says.Malformed e = absurd (omega arith)
numbered says.NoRoom e = absurd (omega arith)

module _ (a b : List ℕ) (c : Counts) (out : List ℕ) (r : Writing) (after : List ℕ) (w : Wrote a b c out r after) where
  answer-is : r.answer ≡ answer_of a b c out
  unfolding writing_of writing_for
  answer-is = ap (λ (x : Writing). x.answer) w.result

  bytes-are : r.bytes ≡ bytes_for (answer_of a b c out) (text_of a b c)
  unfolding writing_of writing_for
  bytes-are = ap (λ (x : Writing). x.bytes) w.result

  -- by the answer
  module _ (k : answer_of a b c out ≡ says.Written) where
    written-bytes : r.bytes ≡ length (text_of a b c)
    unfolding bytes_for
    written-bytes = bytes-are ∙ rw k

    written_after : after ≡ text_of a b c ++ drop (length (text_of a b c)) out
    unfolding output_of output_for
    written_after = w.output ∙ rw k

    front : take r.bytes after ≡ text_of a b c
    front =
        rw (written-bytes, written_after) (take_at (text_of a b c) (drop (length (text_of a b c)) out) (length (text_of a b c)) refl)

    back : drop r.bytes after ≡ drop r.bytes out
    back =
        rw (written-bytes, written_after) (drop_at (text_of a b c) (drop (length (text_of a b c)) out) (length (text_of a b c)) refl)

  unchanged : (x : WriteAnswer) → answer_of a b c out ≡ x → (write_number x ≡ 0 → ⊥) → (r.bytes ≡ 0) × (after ≡ out)
  unfolding write_number bytes_for output_of output_for
  unchanged says.Written k n = absurd (n refl)
  unchanged says.Length k n = (bytes-are ∙ rw k, w.output ∙ rw k)
  unchanged says.Malformed k n = (bytes-are ∙ rw k, w.output ∙ rw k)
  unchanged says.NoRoom k n = (bytes-are ∙ rw k, w.output ∙ rw k)

  pub write-demands : WriteDemands a b c out r after
  unfolding formula_in write_number
  write-demands =
      record {
        writes = λ n.
            let e : r.answer ≡ says.Written = numbered r.answer n in
            let k : answer_of a b c out ≡ says.Written = sym answer-is ∙ e in
            (front k, wrote-reads a b c out r after w e, back k);
        accepts = λ g f. ap (λ (x : Writing). write_number x.answer) (wrote-answer a b c out r after w (right a b c (asked a b c) refl g) (given-good a b c g) f);
        short = λ g. text-short a b c (given-good a b c g);
        number = w.number;
        refuses = λ n. unchanged (answer_of a b c out) refl (λ z. n (ap write_number answer-is ∙ z));
      }
