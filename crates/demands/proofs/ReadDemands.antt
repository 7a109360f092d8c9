-- `read`, from its contract alone: it meets its demands, and two outcomes that conform coincide.
-- Assumes nothing.
use mathlib.Core.Path.{◌≡◌, refl, sym, ap, ◌∙◌}
use mathlib.Core.Bool.{Bool, true, false, false≢true}
use mathlib.Core.List.{List}
use Prim.Native.Nat.{ℕ}
use native.Mathlib.Omega.{arith}
use borrow.Author.Tests.{leb-true}
use lib.Dec.{leb}
use lib.ListN.{length}
use Rattle.qdimacs.specs.Read as qdimacs
use Rattle.reader.specs.declared.ReadAnswer.TheVariants as reads
use Rattle.meaning.specs.Formula.{Formula}
use Rattle.meaning.specs.Game.{is_true}
use Rattle.meaning.specs.WellFormed.{literals, max_text}
use Rattle.qdimacs.specs.Read.{fault, good, read}
use Rattle.table.specs.Table.{empty_formula, counts_of}
use Rattle.table.specs.Lent.{right_lengths}
use Rattle.reader.specs.Reading.{read_number, answer_for, refusal, reading_for, lengths_right, reading_of, table_for, first_after, second_after, Reads}
use Rattle.reader.specs.declared.Reading.{Reading}
use Rattle.standing.specs.Standing.{formula_in, first_for, second_for}
use Rattle.demands.specs.Demands.{zeros, no_counts, LeftAs, TextRead, ReadDemands}
use Rattle.meaning.proofs.Basics.{and_r}
use Rattle.table.proofs.TableLaws.{table_empty}
use Rattle.reader.proofs.NumberLaws.{Known, fault-known}
use Rattle.demands.proofs.Promises.{ReadRight, reading}
use Rattle.standing.proofs.LentLaws.{stands-formula, stands-given}

module _ (text a b : List ℕ) (r : Reading) (a' b' : List ℕ) (w : Reads text a b r a' b') where
  pub reads-once : (q : Reading) (x y : List ℕ) → Reads text a b q x y → (r ≡ q) × (a' ≡ x) × (b' ≡ y)
  reads-once q x y v = (w.answer ∙ sym v.answer, w.first ∙ sym v.first, w.second ∙ sym v.second)

  -- A length is wrong ------------------------------------------------------------------------------------------
  module _ (l : lengths_right text a b ≡ false) where
    wrong-is : r ≡ record { answer = reads.Length; offset = 0; counts = no_counts }
    unfolding reading_of refusal answer_for counts_of empty_formula literals
    wrong-is = w.answer ∙ rw l

    wrong-number : read_number r.answer ≡ 1
    unfolding read_number
    wrong-number = ap (λ (x : Reading). read_number x.answer) wrong-is

    wrong-left : LeftAs a b no_counts a' b' r.counts
    unfolding first_after second_after
    wrong-left = record { counts = ap (λ (x : Reading). x.counts) wrong-is; first = w.first ∙ rw l; second = w.second ∙ rw l }

    wrong-length : ReadDemands text a b r a' b'
    wrong-length =
        record {
          reads = λ h. absurd (omega (arith, wrong-number));
          accepts = λ t φ h. absurd (false≢true (sym l ∙ t));
          faults = λ h. absurd (omega (arith, wrong-number));
          refuses = λ h. (l, wrong-left);
        }

  -- The text writes a formula ----------------------------------------------------------------------------------
  module _ (l : lengths_right text a b ≡ true) (φ : Formula) (h : read text ≡ good φ) where
    read_is : r ≡ record { answer = reads.Read; offset = 0; counts = counts_of φ false }
    unfolding reading_of reading_for
    read_is = w.answer ∙ rw (l, h)

    first-is : a' ≡ first_for false φ
    unfolding first_after table_for first_for
    first-is = w.first ∙ rw (l, h)

    second_is : b' ≡ second_for false φ
    unfolding second_after second_for
    second_is = w.second ∙ rw l

    text-read : TextRead text a' b' r.counts
    unfolding second_for counts_of
    text-read =
        let k : ReadRight text φ = reading text φ h in
        let d = ap (λ (x : Reading). x.counts) read_is in
        let z : formula_in a' b' r.counts ≡ φ = rw (d, first-is, second_is) (stands-formula φ false k.room) in
        record {
          written = k.written;
          is-written = k.is-written;
          is-tidied = z ∙ k.is-tidied;
          left = record { taken = rw (d, first-is, second_is) (stands-given φ false k.room k.well); same_truth = ap is_true z ∙ k.same_truth };
          side = rw d;
          spare = second_is ∙ sym table_empty;
        }

    number-none : read_number r.answer ≡ 0
    unfolding read_number
    number-none = ap (λ (x : Reading). read_number x.answer) read_is

    taken : ReadDemands text a b r a' b'
    taken =
        record {
          reads = λ _. text-read;
          accepts = λ _ _ _. number-none;
          faults = λ k. absurd (omega (arith, number-none));
          refuses = λ k. absurd (omega (arith, number-none));
        }

  -- The text has a fault ---------------------------------------------------------------------------------------
  module _ (l : lengths_right text a b ≡ true) (k at : ℕ) (h : read text ≡ fault k at) where
    fault-is : r ≡ refusal k at
    unfolding reading_of reading_for
    fault-is = w.answer ∙ rw (l, h)

    known : Known k
    unfolding lengths_right
    known = fault-known text (leb-true (length text) max_text (and_r (right_lengths a b) (leb (length text) max_text) l)) k at h

    number_is : read_number r.answer ≡ k
    unfolding refusal
    number_is = ap (λ (x : Reading). read_number x.answer) fault-is ∙ known.0

    fault-left : LeftAs zeros zeros no_counts a' b' r.counts
    unfolding first_after second_after table_for refusal counts_of empty_formula literals
    fault-left =
        record {
          counts = ap (λ (x : Reading). x.counts) fault-is;
          first = w.first ∙ rw (l, h) (sym table_empty);
          second = w.second ∙ rw l (sym table_empty);
        }

    faulty : ReadDemands text a b r a' b'
    unfolding refusal
    faulty =
        let at-is : r.offset ≡ at = ap (λ (x : Reading). x.offset) fault-is in
        record {
          reads = λ z. absurd (omega (arith, number_is, known.1));
          accepts = λ _ φ g. absurd (let z : fault k at ≡ good φ = sym h ∙ g in let y : ◌≡◌ {A = ℕ} 0 1 = cc in omega arith);
          faults = λ _. (rw (number_is, at-is) h, fault-left);
          refuses = λ z. absurd (omega (arith, number_is, known.1));
        }

  pub read-demands : ReadDemands text a b r a' b'
  read-demands = go (lengths_right text a b) refl (read text) refl
    where
      go : (t : Bool) → lengths_right text a b ≡ t → (x : qdimacs.Answer) → read text ≡ x → ReadDemands text a b r a' b'
      go false l x h = wrong-length l
      go true l (good φ) h = taken l φ h
      go true l (fault k at) h = faulty l k at h
