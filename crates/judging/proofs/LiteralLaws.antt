-- The answers of src/literals.rt.
-- Assumes nothing.
use Prim.Native.Nat.{ℕ}
use mathlib.Core.Path.{◌≡◌, sym, ◌∙◌}
use mathlib.Core.Bool.{Bool, true, false}
use mathlib.Core.List.{List, []}
use lib.ListN.{length}
use borrow.Author.Tests.{eq-eqb, ne_eqb}
use Rattle.meaning.specs.WellFormed.{well_formed}
use Rattle.table.specs.Table.{all_literals, decode, Holds}
use Rattle.table.specs.Lent.{named, right_lengths}
use Rattle.judging.specs.Check.{layout_holds, good_table, Asked, judged, asked, literals_given, literals_part}
use Rattle.table.specs.declared.Counts.{Counts}
use Rattle.std.specs.Prelude.{Ok, Err}
use Rattle.judging.specs.declared.Unfit.{Unfit}
use Rattle.judging.specs.declared.Unfit.TheVariants.{WrongLength, Malformed}
use Rattle.meaning.proofs.Basics.{by_cases, and_l}
use Rattle.judging.proofs.GoodLaws.{true-holds}

-- what is said of one table
pub judged-good : (t : List ℕ) (c : Counts) → good_table t c ≡ true → Ok tt ≡ judged t c
unfolding judged
judged-good t c e = rw e

pub judged-bad : (t : List ℕ) (c : Counts) → good_table t c ≡ false → Err Malformed ≡ judged t c
unfolding judged
judged-bad t c e = rw e

module _ (first second : List ℕ) (c : Counts) where
  -- what is said of both
  pub wrong_first : (length first ≡ 11261 → ⊥) → Err WrongLength ≡ asked first second c
  unfolding asked right_lengths
  wrong_first e = rw (ne_eqb (length first) 11261 e)

  pub wrong_second : length first ≡ 11261 → (length second ≡ 11261 → ⊥) → Err WrongLength ≡ asked first second c
  unfolding asked right_lengths
  wrong_second e d = rw (eq-eqb (length first) 11261 e, ne_eqb (length second) 11261 d)

  pub asked_is : length first ≡ 11261 → length second ≡ 11261 → (t : List ℕ) → named first second c ≡ t → (r : Asked) → r ≡ judged t c → r ≡ asked first second c
  unfolding asked right_lengths
  asked_is e d t n r q = rw (eq-eqb (length first) 11261 e, eq-eqb (length second) 11261 d, n) q

  -- the literals that are given
  module _ (r : Asked) (q : r ≡ asked first second c) where
    pub given_holds : r ≡ Ok tt → Holds (decode (named first second c) c) (named first second c) c
    given_holds e =
        by_cases (good_table (named first second c) c)
        (λ g. true-holds (named first second c) c (unfold good_table in and_l (layout_holds (named first second c) c) (well_formed (decode (named first second c) c)) (unfold good_table in g)))
        (λ g. absurd (no (right_lengths first second) g (sym (sym q ∙ e))))
      where
        no : (b : Bool) → good_table (named first second c) c ≡ false → Ok tt ≡ asked first second c → ⊥
        no b g k =
            by_cases (right_lengths first second)
            (λ l. let z : ◌≡◌ {A = Asked} (Ok tt) (Err Malformed) = k ∙ (unfold asked judged in rw (l, g)) in cc)
            (λ l. let z : ◌≡◌ {A = Asked} (Ok tt) (Err WrongLength) = k ∙ (unfold asked in rw l) in cc)

    pub given-part : r ≡ Ok tt → literals_part first second c ≡ all_literals (decode (named first second c) c).clauses
    unfolding literals_part literals_given
    given-part e = rw (← q, e)

    pub none_given : (u : Unfit) → r ≡ Err u → [] ≡ literals_part first second c
    unfolding literals_part literals_given
    none_given u e = rw (← q, e)

    -- the same as the code has it: t is the table that the record names
    module _ (e : r ≡ Ok tt) (t : List ℕ) (n : named first second c ≡ t) where
      pub given-at : Holds (decode t c) t c
      given-at = rw n at (given_holds e)

      pub given_is : (l : List ℕ) → l ≡ all_literals (decode t c).clauses → l ≡ literals_part first second c
      given_is l k = k ∙ sym (rw n at (given-part e))
