-- The answer and the two tables: refused for a length, refused at a token, or read.
-- Assumes nothing.
use mathlib.Core.Path.{◌≡◌, refl, sym, ap, ◌∙◌}
use mathlib.Core.Bool.{true, false}
use mathlib.Core.List.{List}
use Prim.Native.Nat.{ℕ, ◌≤◌, ◌<◌}
use native.Mathlib.Omega.{arith}
use borrow.Author.Tests.{le-leb, leb-true}
use lib.Dec.{eqb}
use lib.ListN.{length, replicate, length-replicate}
use Rattle.qdimacs.specs.Read as qdimacs
use Rattle.meaning.specs.Tidy.{tidied, build, build_on}
use Rattle.meaning.specs.WellFormed.{max_text}
use Rattle.qdimacs.specs.Read.{start, fault, good, read}
use Rattle.table.specs.Table.{empty_formula, table_of, counts_of}
use Rattle.table.specs.Lent.{right_lengths}
use Rattle.std.specs.Prelude.{Result, Ok, Err}
use Rattle.table.specs.declared.Counts.{Counts}
use Rattle.tracks.specs.Tracks.{so_far, fresh, Tracks}
use Rattle.reader.specs.Reading.{refusal, reading_for, lengths_right, reading_of, table_for, first_after, second_after, Reads, outcome_of, Left, Filled}
use Rattle.reader.specs.declared.ReadAnswer.TheVariants.{Read}
use Rattle.reader.specs.declared.Reading.{Reading}
use Rattle.reader.specs.declared.turns.Fault.{Fault}
use Rattle.meaning.proofs.Basics.{false_of, and_l, and_r, and_i, eqb-true, eqb-eq}
use Rattle.table.proofs.HoldLaws.{empty_holds}
use Rattle.table.proofs.TableLaws.{table_empty}
use Rattle.table.proofs.RankLaws.{ranks-none}
use Rattle.table.proofs.PendingLaws.{pends-empty}
use Rattle.marks.proofs.PushLaws.{marks-none}

-- an empty table, scratch, ranks and marks hold the start
pub starts : (t m : List ℕ) → t ≡ table_of empty_formula → m ≡ table_of empty_formula → Tracks start fresh t (replicate 1023 0) (replicate 1024 0) m
unfolding start so_far tidied build build_on empty_formula
starts t m e z =
    record {
      stores = record { phase = refl; m = refl; c = refl; closed = refl; table = empty_holds t _ false e refl; first = unfold counts_of in refl; ranks = ranks-none };
      pending = pends-empty (replicate 1023 0) (length-replicate {A = ℕ} 1023 0);
      marked = rw (z, ← table_empty) marks-none;
    }

module _ (text a b : List ℕ) where
  pub wrong_first : (length a ≡ 11261 → ⊥) → lengths_right text a b ≡ false
  unfolding lengths_right right_lengths
  wrong_first h = false_of _ (λ e. h (eqb-true (length a) 11261 (and_l _ _ (and_l _ _ e))))

  pub wrong_second : (length b ≡ 11261 → ⊥) → lengths_right text a b ≡ false
  unfolding lengths_right right_lengths
  wrong_second h = false_of _ (λ e. h (eqb-true (length b) 11261 (and_r (eqb (length a) 11261) _ (and_l _ _ e))))

  pub wrong-text : max_text < length text → lengths_right text a b ≡ false
  unfolding lengths_right
  wrong-text h = false_of _ (λ e. omega (arith, leb-true (length text) max_text (and_r (right_lengths a b) _ e)))

  pub right-lengths : length a ≡ 11261 → length b ≡ 11261 → length text ≤ max_text → lengths_right text a b ≡ true
  unfolding lengths_right right_lengths
  right-lengths p q h = and_i _ _ (and_i _ _ (eqb-eq p) (eqb-eq q)) (le-leb (length text) max_text h)

  -- nothing is written
  pub reads_nothing : lengths_right text a b ≡ false → (r : Reading) → r ≡ refusal 1 0 → Reads text a b r a b
  unfolding reading_of first_after second_after
  reads_nothing e r q = record { answer = rw e q; first = rw e; second = rw e }

  module _ (e : lengths_right text a b ≡ true) (o : Result Counts Fault) (t : List ℕ) (h : Filled text o t) (b' : List ℕ) (z : b' ≡ table_of empty_formula) where
    -- a refusal: both tables are zero
    pub reads-fault : (f : Fault) → o ≡ Err f → (a' : List ℕ) → a' ≡ table_of empty_formula → (r : Reading) → r ≡ refusal f.number f.offset → Reads text a b r a' b'
    unfolding reading_of first_after second_after
    reads-fault f q a' y r w = record { answer = rw e (w ∙ (go (read text) (sym q ∙ h.outcome)).0); first = rw e (y ∙ (go (read text) (sym q ∙ h.outcome)).1); second = rw e z }
      where
        go : (x : qdimacs.Answer) → Err f ≡ outcome_of x → (refusal f.number f.offset ≡ reading_for x) × (table_of empty_formula ≡ table_for x)
        go (fault l p) u = unfold outcome_of reading_for table_for in let z : f ≡ record { number = l; offset = p } = cc in (ap (λ (g : Fault). refusal g.number g.offset) z, refl)
        go (good φ) u = unfold outcome_of in (let z : ◌≡◌ {A = ℕ} 0 1 = cc in absurd (omega arith), let z : ◌≡◌ {A = ℕ} 0 1 = cc in absurd (omega arith))

    -- a formula is read
    pub reads-formula : (d : Counts) → o ≡ Ok d → (r : Reading) → r ≡ record { answer = Read; offset = 0; counts = d } → Reads text a b r t b'
    unfolding reading_of first_after second_after
    reads-formula d q r w = record { answer = rw e (w ∙ (go (read text) (sym q ∙ h.outcome) h.left).0); first = rw e (go (read text) (sym q ∙ h.outcome) h.left).1; second = rw e z }
      where
        go : (x : qdimacs.Answer) → Ok d ≡ outcome_of x → Left x t → (◌≡◌ {A = Reading} (record { answer = Read; offset = 0; counts = d }) (reading_for x)) × (t ≡ table_for x)
        go (fault l p) u k = unfold outcome_of in (let z : ◌≡◌ {A = ℕ} 0 1 = cc in absurd (omega arith), let z : ◌≡◌ {A = ℕ} 0 1 = cc in absurd (omega arith))
        go (good φ) u k = unfold outcome_of reading_for table_for in (cc, k)
