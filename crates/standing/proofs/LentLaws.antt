-- Two lent tables: what is known where nothing is said against them, and what is said of those in which a formula was left.
-- Assumes nothing.
use mathlib.Core.Path.{◌≡◌, refl, sym, ap, ◌∙◌}
use mathlib.Core.Bool.{Bool, true}
use mathlib.Core.List.{List}
use Prim.Native.Nat.{ℕ}
use borrow.Author.Tests.{eq-eqb, eqb-true}
use lib.Dec.{eqb}
use lib.ListN.{length, length-replicate}
use Rattle.std.specs.Prelude.{Ok, Err}
use Rattle.judging.specs.declared.Unfit.TheVariants.{WrongLength}
use Rattle.meaning.specs.Formula.{Formula}
use Rattle.meaning.specs.WellFormed.{well_formed, fits}
use Rattle.table.specs.Table.{table_length, table_of, counts_of, decode, empty_formula, Holds}
use Rattle.table.specs.Lent.{named, right_lengths}
use Rattle.judging.specs.Check.{layout_holds, good_table, Asked, asked}
use Rattle.table.specs.declared.Counts.{Counts}
use Rattle.apply.specs.Applied.{Lends, Lent}
use Rattle.standing.specs.Standing.{formula_in, first_for, second_for}
use Rattle.meaning.proofs.Basics.{by_cases, and_l, and_r, and_i}
use Rattle.meaning.proofs.Parts.{room_of}
use Rattle.table.proofs.TableLaws.{length-table, table_empty}
use Rattle.table.proofs.DecodeLaws.{decode-holds, holds-decoded}
use Rattle.judging.proofs.GoodLaws.{holds-true, true-holds}
use Rattle.writer.proofs.RoundTrip.{given-good, good-given}

-- Before: the table that the record names holds a well formed formula, and both have the right length ----------
module _ (a b : List ℕ) (c : Counts) (s : Asked) (q : s ≡ asked a b c) (g : s ≡ Ok tt) where
  pub right : right_lengths a b ≡ true
  unfolding asked
  right =
      by_cases (right_lengths a b) (λ l. l)
      (λ l.
      let z : ◌≡◌ {A = Asked} (Ok tt) (Err WrongLength) = sym g ∙ q ∙ rw l in
      cc)

  good : good_table (named a b c) c ≡ true
  good = given-good a b c (sym q ∙ g)

  pub lends : Lends (formula_in a b c) a b c
  unfolding formula_in good_table right_lengths
  lends =
      let t : List ℕ = named a b c in
      record {
        holds = true-holds t c (and_l (layout_holds t c) (well_formed (decode t c)) good);
        well = and_r (layout_holds t c) (well_formed (decode t c)) good;
        first-length = eqb-true (length a) table_length (and_l (eqb (length a) table_length) (eqb (length b) table_length) right);
        second-length = eqb-true (length b) table_length (and_r (eqb (length a) table_length) (eqb (length b) table_length) right);
      }

  pub lent : Lent a b c
  lent = record { formula = formula_in a b c; lends = lends }

-- After: ψ stands on a side, and its record names that side ---------------------------------------------------
module _ (ψ : Formula) (side : Bool) where
  pub stands-named : (c : Counts) → c.second ≡ side → named (first_for side ψ) (second_for side ψ) c ≡ table_of ψ
  unfolding named first_for second_for
  stands-named c e = rw e (by_cases side (λ h. rw h) (λ h. rw h))

  module _ (f : fits ψ ≡ true) where
    stands-holds : Holds ψ (named (first_for side ψ) (second_for side ψ) (counts_of ψ side)) (counts_of ψ side)
    unfolding counts_of
    stands-holds = record { table = stands-named (counts_of ψ side) refl; counts = refl; fitting = f }

    pub stands-formula : formula_in (first_for side ψ) (second_for side ψ) (counts_of ψ side) ≡ ψ
    unfolding formula_in
    stands-formula = decode-holds ψ (named (first_for side ψ) (second_for side ψ) (counts_of ψ side)) (counts_of ψ side) stands-holds

    stands-right : right_lengths (first_for side ψ) (second_for side ψ) ≡ true
    unfolding right_lengths first_for second_for
    stands-right =
        let p = eq-eqb (length (table_of ψ)) table_length (length-table ψ (room_of ψ f)) in
        let z = eq-eqb (length (table_of empty_formula)) table_length (ap length (sym table_empty) ∙ length-replicate {A = ℕ} 11261 0) in
        by_cases side (λ e. rw (e, z, p)) (λ e. rw (e, p, z))

    module _ (w : well_formed ψ ≡ true) where
      stands_good : good_table (named (first_for side ψ) (second_for side ψ) (counts_of ψ side)) (counts_of ψ side) ≡ true
      unfolding good_table formula_in
      stands_good =
          let c : Counts = counts_of ψ side in
          let t : List ℕ = named (first_for side ψ) (second_for side ψ) c in
          and_i (layout_holds t c) (well_formed (decode t c)) (holds-true (holds-decoded stands-holds)) (ap well_formed stands-formula ∙ w)

      -- a call that gets them is not refused for them
      pub stands-given : asked (first_for side ψ) (second_for side ψ) (counts_of ψ side) ≡ Ok tt
      stands-given = good-given (first_for side ψ) (second_for side ψ) (counts_of ψ side) stands-right stands_good
