-- The theorem of the choice, in words: what is taken counts, and no entry that counts is ahead of it. Assumes nothing.
use mathlib.Core.Path.{◌≡◌, ◌∙◌}
use Prim.Native.Nat.{ℕ, ◌<◌}
use mathlib.Core.Bool.{true, false, ◌&&◌, ◌||◌}
use lib.Dec.{eqb, ltb}
use borrow.Author.Tests.{lt-ltb}
use Rattle.meaning.specs.Lists.{has}
use Rattle.meaning.specs.Formula.{Formula}
use Rattle.meaning.specs.WellFormed.{weight, fits, well_formed}
use Rattle.rules.specs.Entry.{Kind, unit, pure, subsume, strengthen, equality, resolve, expand, code, entry, call, read_entry, uses_b}
use Rattle.rules.specs.Step.{result_of}
use Rattle.rules.specs.Choice.{costly, allowed_call, on_call, allowed, indices, variables, firsts, seconds, take_step, choose}
use Rattle.rules.proofs.Ahead.{left_of, pair_before, lighter_than, ahead}
use Rattle.meaning.proofs.Basics.{false_of, and_l, and_r, and_i, or-il, or-ir, or_elim, clash}
use Rattle.rules.proofs.Before.{before, in_order, precedes}
use Rattle.rules.proofs.Entries.{entry_read}
use Rattle.rules.proofs.Choose.{Listed, listed, index_below, variable-mentions}
use Rattle.rules.proofs.Order.{index-order, kind-order, variable-order}
use Rattle.meaning.proofs.Parts.{good_of}
use Rattle.rules.proofs.Chosen.{Takes, choose-takes, takes-allowed}
use Rattle.rules.proofs.Permitted.{wanted-permitted, allowed-wanted}

module _ (φ : Formula) (w : well_formed φ ≡ true) where
  lower : (c a : ℕ) → has c (indices φ) ≡ true → ltb c a ≡ true → before (indices φ) c a ≡ true
  lower c a i h = index-order φ c a (index_below φ c i) ∙ h

  left : (c a : ℕ) → has a (variables φ) ≡ true → left_of φ c a ≡ true → before (variables φ) c a ≡ true
  unfolding left_of
  left c a i h = variable-order φ c a (good_of φ w) (variable-mentions φ a i) ∙ h

  pair : (c d a b : ℕ) → has c (indices φ) ≡ true → has d (indices φ) ≡ true → pair_before c d a b ≡ true
      → (before (indices φ) c a || (eqb c a && before (indices φ) d b)) ≡ true
  unfolding pair_before
  pair c d a b i j h = or_elim _ _ h (λ e. or-il _ _ (lower c a i e)) (λ e. let l = lower d b j (search and_r) in search (or-ir, and_i, and_l))

  weighed : (k : Kind) (c a : ℕ) → has a (variables φ) ≡ true → lighter_than φ k c a ≡ true
      → (ltb (weight (result_of φ k c 0)) (weight (result_of φ k a 0)) || (eqb (weight (result_of φ k c 0)) (weight (result_of φ k a 0)) && before (variables φ) c a)) ≡ true
  unfolding lighter_than
  weighed k c a i h = or_elim (ltb (weight (result_of φ k c 0)) (weight (result_of φ k a 0))) _ h (λ e. search or-il) (λ e. let l = left c a i (search and_r) in search (or-ir, and_i, and_l))

  -- for steps in the kind's lists the words say what the lists say
  ahead-precedes : (k : Kind) (c d a b : ℕ) → Listed φ k c d → Listed φ k a b → ahead φ k c d a b ≡ true → precedes φ k c d a b ≡ true
  unfolding ahead precedes in_order costly firsts seconds uses_b
  ahead-precedes unit c d a b l m h = or-il _ _ (lower c a l.0 h)
  ahead-precedes pure c d a b l m h = or-il _ _ (left c a m.0 h)
  ahead-precedes subsume c d a b l m h = pair c d a b l.0 l.1 h
  ahead-precedes strengthen c d a b l m h = pair c d a b l.0 l.1 h
  ahead-precedes equality c d a b l m h = pair c d a b l.0 l.1 h
  ahead-precedes resolve c d a b l m h = weighed resolve c a m.0 h
  ahead-precedes expand c d a b l m h = weighed expand c a m.0 h

-- what the run takes counts; no entry that counts is of a lower kind, or of its kind and ahead of it
pub record First (E : ℕ) (φ : Formula) (k : Kind) (a b : ℕ) : Type 0 where
  pub counts : allowed E φ (entry k a b) ≡ true
  pub lowest-kind : (e : ℕ) (j : Kind) (c d : ℕ) → read_entry e ≡ call j c d → code j < code k → allowed E φ e ≡ false
  pub none_ahead : (e c d : ℕ) → read_entry e ≡ call k c d → ahead φ k c d a b ≡ true → allowed E φ e ≡ false

pub choose-first : (E : ℕ) (φ : Formula) → well_formed φ ≡ true → fits φ ≡ true → (k : Kind) (a b : ℕ) → choose E φ ≡ take_step k a b → First E φ k a b
unfolding allowed on_call
choose-first E φ w f k a b h = record { counts = takes-allowed E φ f k a b h; lowest-kind = no_lower; none_ahead = no-ahead }
  where
    t : Takes E φ k a b
    t = choose-takes E φ k a b h

    no_lower : (e : ℕ) (j : Kind) (c d : ℕ) → read_entry e ≡ call j c d → code j < code k → on_call (allowed_call E φ) (read_entry e) ≡ false
    no_lower e j c d r l = t.first_kind e j c d r (kind-order j k ∙ lt-ltb (code j) (code k) l)

    no-ahead : (e c d : ℕ) → read_entry e ≡ call k c d → ahead φ k c d a b ≡ true → on_call (allowed_call E φ) (read_entry e) ≡ false
    no-ahead e c d r p =
        false_of _
        (λ i. clash i (t.first-of-kind e c d r
        (ahead-precedes φ w k c d a b (listed φ k c d (entry_read e k c d r).fields.b-used (wanted-permitted E φ k c d (allowed-wanted E φ k c d (rw r at i)))) t.is-listed p)))
