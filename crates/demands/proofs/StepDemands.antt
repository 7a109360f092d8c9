-- `step`, from its contract alone: it meets its demands, and two outcomes that conform coincide.
-- Assumes nothing.
use mathlib.Core.Path.{◌≡◌, refl, sym, ap, ◌∙◌}
use mathlib.Core.Bool.{not}
use mathlib.Core.List.{List}
use Prim.Native.Nat.{ℕ, ◌≤◌}
use native.Mathlib.Omega.{arith}
use Rattle.rules.specs.Step as rules
use Rattle.judging.specs.declared.Unfit.TheVariants as said
use Rattle.std.specs.Prelude.{Ok, Err}
use Rattle.meaning.specs.Formula.{Formula}
use Rattle.meaning.specs.Game.{is_true}
use Rattle.rules.specs.Step.{Refusal, entry_bad, not_permitted, no_room, refusal_number, refused, stepped, step_of}
use Rattle.table.specs.Table.{counts_of}
use Rattle.table.specs.Lent.{named}
use Rattle.judging.specs.Check.{Asked, asked, asked_number}
use Rattle.table.specs.declared.Counts.{Counts}
use Rattle.apply.specs.Applied.{formula_after, side_after}
use Rattle.standing.specs.Standing.{formula_in, first_for, second_for, first_left, second_left}
use Rattle.replaying.specs.Stepping.{step_number, refusal_answer, step_answer, answer_for, step_counts, counts_for, step_in, formula_left, side_left, answer_of, counts_given, first_after, second_after, Steps}
use Rattle.demands.specs.Demands.{Left, LeftAs, StepDemands}
use Rattle.replaying.specs.declared.stepping.Stepped.{Stepped}
use Rattle.demands.proofs.Promises.{StepRight, stepping}
use Rattle.standing.proofs.LentLaws.{lends, stands-named, stands-formula, stands-given}

-- the number of a step's own refusal
pub refusal-number : (y : Refusal) → step_number (refusal_answer y) ≡ refusal_number y
unfolding step_number refusal_answer refusal_number
refusal-number entry_bad = refl
refusal-number not_permitted = refl
refusal-number no_room = refl

pub refusal-large : (y : Refusal) → 10 ≤ refusal_number y
unfolding refusal_number
refusal-large entry_bad = omega arith
refusal-large not_permitted = omega arith
refusal-large no_room = omega arith

module _ (a b : List ℕ) (c : Counts) (e : ℕ) (r : Stepped) (a' b' : List ℕ) (w : Steps a b c e r a' b') where
  pub steps-once : (q : Stepped) (x y : List ℕ) → Steps a b c e q x y → (r ≡ q) × (a' ≡ x) × (b' ≡ y)
  steps-once q x y v =
      let p : r.answer ≡ q.answer = w.answer ∙ sym v.answer in
      let d : r.counts ≡ q.counts = w.counts ∙ sym v.counts in
      (λ i. record { answer = p i; counts = d i }, w.first ∙ sym v.first, w.second ∙ sym v.second)

  -- Done: the formula that stands after it is the step's result ------------------------------------------------
  module _ (ψ : Formula) (g : asked a b c ≡ Ok tt) (x : step_of (formula_in a b c) e ≡ stepped ψ) where
    counts-are : r.counts ≡ counts_of ψ (not c.second)
    unfolding counts_given counts_for step_in step_counts
    counts-are = w.counts ∙ rw (g, x)

    first-is : a' ≡ first_for (not c.second) ψ
    unfolding first_after first_left step_in side_left side_after formula_left formula_after
    first-is = w.first ∙ rw (g, x)

    second_is : b' ≡ second_for (not c.second) ψ
    unfolding second_after second_left step_in side_left side_after formula_left formula_after
    second_is = w.second ∙ rw (g, x)

    done-number : step_number r.answer ≡ 0
    unfolding answer_of answer_for step_in step_answer step_number
    done-number = ap step_number w.answer ∙ rw (g, x)

    done : StepDemands a b c e r a' b'
    done =
        let k : StepRight (formula_in a b c) ψ = stepping (formula_in a b c) (lends a b c (asked a b c) refl g).well e ψ x in
        let z : formula_in a' b' r.counts ≡ ψ = rw (counts-are, first-is, second_is) (stands-formula ψ (not c.second) k.room) in
        let l : Left (formula_in a b c) a' b' r.counts = record {
          taken = rw (counts-are, first-is, second_is) (stands-given ψ (not c.second) k.room k.well);
          same_truth = ap is_true z ∙ k.same_truth;
        } in
        record {
          steps = λ _. (g, x ∙ ap stepped (sym z), l);
          refuses = λ h. absurd (omega (arith, done-number));
          nothing = λ h _. absurd (omega (arith, done-number));
        }

  -- Refused: the record and the table that it names are as they were lent --------------------------------------
  module _ (y : Refusal) (g : asked a b c ≡ Ok tt) (x : step_of (formula_in a b c) e ≡ refused y) where
    counts-lent : r.counts ≡ c
    unfolding counts_given counts_for step_in step_counts
    counts-lent = w.counts ∙ rw (g, x)

    table-lent : named a' b' c ≡ named a b c
    unfolding first_after first_left second_after second_left step_in side_left side_after formula_left formula_after
    table-lent =
        let p : a' ≡ first_for c.second (formula_in a b c) = w.first ∙ rw (g, x) in
        let q : b' ≡ second_for c.second (formula_in a b c) = w.second ∙ rw (g, x) in
        rw (p, q) (stands-named (formula_in a b c) c.second c refl) ∙ sym (lends a b c (asked a b c) refl g).holds.table

    refused-number : step_number r.answer ≡ refusal_number y
    unfolding answer_of answer_for step_in step_answer
    refused-number = ap step_number w.answer ∙ rw (g, x) (refusal-number y)

    turned_down : StepDemands a b c e r a' b'
    turned_down =
        record {
          steps = λ h. absurd (omega (arith, refused-number, refusal-large y));
          refuses = λ _. (y, x, refused-number, counts-lent, table-lent);
          nothing = λ _ h. absurd (omega (arith, refused-number, refusal-large y));
        }

  -- Nothing written --------------------------------------------------------------------------------------------
  nothing_written : (n : ℕ) → asked_number (asked a b c) ≡ n → 1 ≤ n → n ≤ 2 → step_number r.answer ≡ n → LeftAs a b c a' b' r.counts → StepDemands a b c e r a' b'
  nothing_written n s l m k u =
      record { steps = λ h. absurd (omega arith); refuses = λ h. absurd (omega arith); nothing = λ _ _. (k ∙ sym s, u) }

  pub step-demands : StepDemands a b c e r a' b'
  unfolding answer_of answer_for counts_given counts_for first_after first_left second_after second_left step_number asked_number
  step-demands = go (asked a b c) refl (step_of (formula_in a b c) e) refl
    where
      go : (s : Asked) → asked a b c ≡ s → (x : rules.StepAnswer) → step_of (formula_in a b c) e ≡ x → StepDemands a b c e r a' b'
      go (Ok u) g (refused y) x = turned_down y g x
      go (Ok u) g (stepped ψ) x = done ψ g x
      go (Err said.WrongLength) g x h =
          nothing_written 1 (rw g) (omega arith) (omega arith) (ap step_number w.answer ∙ rw g)
          (record { counts = w.counts ∙ rw g; first = w.first ∙ rw g; second = w.second ∙ rw g })
      go (Err said.Malformed) g x h =
          nothing_written 2 (rw g) (omega arith) (omega arith) (ap step_number w.answer ∙ rw g)
          (record { counts = w.counts ∙ rw g; first = w.first ∙ rw g; second = w.second ∙ rw g })
