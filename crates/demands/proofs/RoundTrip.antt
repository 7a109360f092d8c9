-- What the code writes, the code reads back to the same counts and table: from the contracts of `write` and `read`.
-- Assumes nothing.
use mathlib.Core.Path.{◌≡◌, sym, ap, ◌∙◌}
use mathlib.Core.Bool.{true, false}
use mathlib.Core.List.{List}
use Prim.Native.Nat.{ℕ}
use native.Mathlib.Omega.{arith}
use borrow.Author.Tests.{leb-false}
use lib.Dec.{leb}
use lib.ListN.{length, take}
use Rattle.reader.specs.declared.ReadAnswer.TheVariants as reads
use Rattle.writer.specs.declared.WriteAnswer.TheVariants as says
use Rattle.meaning.specs.Formula.{Formula}
use Rattle.meaning.specs.WellFormed.{max_text}
use Rattle.qdimacs.specs.Read.{fault, good, read}
use Rattle.qdimacs.specs.Faults.{LENGTH}
use Rattle.table.specs.Table.{counts_of, decode, Holds}
use Rattle.table.specs.Lent.{named, right_lengths}
use Rattle.judging.specs.Check.{good_table}
use Rattle.table.specs.declared.Counts.{Counts}
use Rattle.reader.specs.Reading.{read_number, reading_for, lengths_right, reading_of, table_for, first_after, second_after, Reads}
use Rattle.reader.specs.declared.Reading.{Reading}
use Rattle.writer.specs.Written.{Wrote}
use Rattle.writer.specs.declared.Writing.{Writing}
use Rattle.demands.specs.Demands.{ReadBack}
use Rattle.meaning.proofs.Basics.{by_cases, and_l}
use Rattle.qdimacs.proofs.Faults.{too_long}
use Rattle.judging.proofs.GoodLaws.{true-holds}
use Rattle.table.proofs.TableLaws.{table_empty}
use Rattle.writer.proofs.RoundTrip.{wrote-good, wrote-reads}

-- a text that is read is not too long
not-long : (text : List ℕ) (φ : Formula) → read text ≡ good φ → leb (length text) max_text ≡ true
not-long text φ h =
    by_cases (leb (length text) max_text) (λ e. e)
    (λ e.
    let z : fault LENGTH 0 ≡ good φ = sym (too_long text (leb-false (length text) max_text e)) ∙ h in
    let w : ◌≡◌ {A = ℕ} 0 1 = cc in absurd (omega arith))

-- what a good table holds: the formula in it
holds : (t : List ℕ) (c : Counts) → good_table t c ≡ true → Holds (decode t c) t c
unfolding good_table
holds t c g = true-holds t c (search and_l)

pub read_back : (first second : List ℕ) (c : Counts) (out : List ℕ) (r : Writing) (after : List ℕ) → Wrote first second c out r after
    → r.answer ≡ says.Written → (a b : List ℕ) → right_lengths a b ≡ true → (q : Reading) (a' b' : List ℕ) → Reads (take r.bytes after) a b q a' b'
    → ReadBack (named first second c) c q a' b'
unfolding reading_of first_after second_after lengths_right reading_for table_for counts_of read_number
read_back first second c out r after w e a b l q a' b' x =
    let t : List ℕ = named first second c in
    let text : List ℕ = take r.bytes after in
    let h : read text ≡ good (decode t c) = wrote-reads first second c out r after w e in
    let k : Holds (decode t c) t c = holds t c (wrote-good first second c out r after w e) in
    let n : leb (length text) max_text ≡ true = not-long text (decode t c) h in
    let m : counts_of (decode t c) false ≡ record { variables = c.variables; clauses = c.clauses; literals = c.literals; second = false } =
    sym (ap (λ (d : Counts). record { variables = d.variables; clauses = d.clauses; literals = d.literals; second = false }) k.counts) in
    let z : q ≡ record { answer = reads.Read; offset = 0; counts = counts_of (decode t c) false } = x.answer ∙ rw (l, n, h) in
    record {
      read_again = ap (λ (y : Reading). read_number y.answer) z;
      counts = ap (λ (y : Reading). y.counts) z ∙ m;
      first = x.first ∙ rw (l, n, h) (sym k.table);
      second = x.second ∙ rw (l, n) (sym table_empty);
    }
