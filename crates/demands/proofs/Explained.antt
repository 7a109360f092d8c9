-- The promises of a question after a variable, from its contract `Explains` alone: what it leaves, that two outcomes that keep to the contract
-- coincide, and that the reason given is true and the only one.
-- Assumes nothing.
use mathlib.Core.Path.{◌≡◌, refl, sym, ap, ◌∙◌}
use mathlib.Core.Bool.{true, false}
use mathlib.Core.List.{List}
use Prim.Native.Nat.{ℕ, ◌<◌, ◌≤◌}
use borrow.Author.Tests.{le-leb, lt-leb}
use Rattle.judging.specs.declared.Unfit.TheVariants as said
use Rattle.std.specs.Prelude.{Ok, Err}
use Rattle.meaning.specs.Formula.{Formula, mentions}
use Rattle.reasons.specs.Reason.{Reason, reason_of}
use Rattle.reasons.specs.Statement.{Says}
use Rattle.reasons.proofs.Reasons.{reason-true, reason-is}
use Rattle.judging.specs.Check.{asked}
use Rattle.table.specs.declared.Counts.{Counts}
use Rattle.apply.specs.Applied.{Lends}
use Rattle.standing.specs.Standing.{formula_in, first_for, second_for}
use Rattle.explaining.specs.Explaining.{reason_number, reason_answer, answer_there, answer_on, looks, heard_of, heard_for, heard_in, answer_for, first_after, second_after, Explains}
use Rattle.explaining.specs.declared.explains.Reasoned.{Reasoned}
use Rattle.standing.proofs.LentLaws.{lends}

-- Two outcomes that keep to the contract coincide ------------------------------------------------------------------
pub record Same (r s : Reasoned) (a' b' a'' b'' : List ℕ) : Type 0 where
  pub given : r ≡ s
  pub first : a' ≡ a''
  pub second : b' ≡ b''

pub explains-same : (a b : List ℕ) (c : Counts) (v E : ℕ) (r s : Reasoned) (a' b' a'' b'' : List ℕ) → Explains a b c v E r a' b' → Explains a b c v E s a'' b''
    → Same r s a' b' a'' b''
explains-same a b c v E r s a' b' a'' b'' x y =
    record { given = x.given ∙ sym y.given; first = x.first ∙ sym y.first; second = x.second ∙ sym y.second }

module _ (a b : List ℕ) (c : Counts) (v E : ℕ) (r : Reasoned) (a' b' : List ℕ) (x : Explains a b c v E r a' b') where
  abbrev φ : Formula
  φ = formula_in a b c

  answer-is : r.answer ≡ answer_for (heard_in a b c E) (answer_on φ v E)
  answer-is = ap (λ (y : Reasoned). y.answer) x.given

  -- Refusals, in their order -------------------------------------------------------------------------------------------
  -- "nothing written", and the record as it was lent
  pub record Refused (n : ℕ) : Type 0 where
    pub number : reason_number r.answer ≡ n
    pub counts : r.counts ≡ c
    pub first : a' ≡ a
    pub second : b' ≡ b

  pub explains-1 : asked a b c ≡ Err said.WrongLength → Refused 1
  unfolding heard_in heard_for answer_for first_after second_after reason_number
  explains-1 h =
      record { number = ap reason_number answer-is ∙ rw h; counts = ap (λ (y : Reasoned). y.counts) x.given; first = x.first ∙ rw h; second = x.second ∙ rw h }

  pub explains-2 : asked a b c ≡ Err said.Malformed → Refused 2
  unfolding heard_in heard_for answer_for first_after second_after reason_number
  explains-2 h =
      record { number = ap reason_number answer-is ∙ rw h; counts = ap (λ (y : Reasoned). y.counts) x.given; first = x.first ∙ rw h; second = x.second ∙ rw h }

  module _ (h : asked a b c ≡ Ok tt) where
    pub explains-13 : 1000 < E → Refused 13
    unfolding heard_in heard_for heard_of answer_for first_after second_after reason_number
    explains-13 l =
        let k = lt-leb E 1000 l in
        record { number = ap reason_number answer-is ∙ rw (h, k); counts = ap (λ (y : Reasoned). y.counts) x.given; first = x.first ∙ rw (h, k); second = x.second ∙ rw (h, k) }

    -- From here on the formula stays where it is, and the spare table ends zero ------------------------------------------
    module _ (l : E ≤ 1000) where
      heard : heard_in a b c E ≡ looks
      unfolding heard_in heard_for heard_of
      heard = rw (h, le-leb E 1000 l)

      pub record Kept : Type 0 where
        pub counts : r.counts ≡ c
        pub first : a' ≡ first_for c.second φ
        pub second : b' ≡ second_for c.second φ

      pub explains-keeps : Kept
      unfolding first_after second_after
      explains-keeps = record { counts = ap (λ (y : Reasoned). y.counts) x.given; first = x.first ∙ rw heard; second = x.second ∙ rw heard }

      on : r.answer ≡ answer_on φ v E
      unfolding answer_for
      on = answer-is ∙ rw heard

      pub explains-10 : mentions φ.prefix v ≡ false → reason_number r.answer ≡ 10
      unfolding answer_on answer_there reason_number
      explains-10 m = ap reason_number on ∙ rw m

      -- The reason --------------------------------------------------------------------------------------------------------
      -- the answer is that of a reason whose statement holds, and no other reason's statement does
      pub record TrueAndOnly : Type 0 where
        pub reason : Reason
        pub given : r.answer ≡ reason_answer reason
        pub holds : Says E φ v reason
        pub only : (s : Reason) → Says E φ v s → s ≡ reason

      pub explains-reason : mentions φ.prefix v ≡ true → TrueAndOnly
      unfolding answer_on answer_there
      explains-reason m =
          let n : Lends φ a b c = lends a b c (asked a b c) refl h in
          record {
            reason = reason_of E φ v;
            given = on ∙ rw m;
            holds = reason-true E φ n.well n.holds.fitting v m;
            only = λ s k. sym (reason-is E φ n.well n.holds.fitting v s k);
          }
