-- The three ways out of a step: refused for a length, refused as malformed, or as the step between the tables says.
-- Assumes nothing.
use mathlib.Core.Path.{◌≡◌, refl, ap, ◌∙◌}
use mathlib.Core.Bool.{not}
use mathlib.Core.List.{List}
use Prim.Native.Nat.{ℕ}
use Rattle.rules.specs.Step as rules
use Rattle.judging.specs.declared.Unfit.{Unfit}
use Rattle.rules.specs.Step.{Refusal, entry_bad, not_permitted, no_room, refused, stepped, step_of}
use Rattle.judging.specs.Check.{Asked, asked}
use Rattle.table.specs.declared.Counts.{Counts}
use Rattle.apply.specs.Applied.{refused_as, stepping_as, Moves}
use Rattle.std.specs.Prelude.{Result, Ok, Err}
use Rattle.apply.specs.declared.Refusal as told
use Rattle.standing.specs.Standing.{formula_in, first_for, second_for, first_left, second_left}
use Rattle.replaying.specs.Stepping.{unfit_answer, refusal_answer, step_answer, answer_for, step_counts, counts_for, step_in, formula_left, side_left, answer_of, counts_given, first_after, second_after, Steps, refused_back, given_back}
use Rattle.replaying.specs.declared.stepping.Stepped.{Stepped}

pub refused-back : (y : Refusal) → refused_back (refused_as y) ≡ refusal_answer y
unfolding refused_back refused_as refusal_answer
refused-back entry_bad = refl
refused-back not_permitted = refl
refused-back no_room = refl

-- what the step between the tables says, given back
given-back : (c : Counts) (x : rules.StepAnswer)
    → given_back (stepping_as x (not c.second)) c ≡ record { answer = step_answer x; counts = step_counts c x }
unfolding given_back stepping_as step_answer step_counts
given-back c (refused y) = rw (refused-back y)
given-back c (stepped ψ) = refl

module _ (a b : List ℕ) (c : Counts) (e : ℕ) (s : Asked) (q : s ≡ asked a b c) where
  pub steps-unfit : (u : Unfit) → s ≡ Err u → Steps a b c e (record { answer = unfit_answer u; counts = c }) a b
  unfolding answer_of answer_for counts_given counts_for first_after first_left second_after second_left
  steps-unfit u k = record { answer = rw (← q, k); counts = rw (← q, k); first = rw (← q, k); second = rw (← q, k) }

  pub steps-given : s ≡ Ok tt → (r : Result Counts told.Refusal) (a' b' : List ℕ) → Moves (formula_in a b c) e c.second r a' b'
      → (x : Stepped) → x ≡ given_back r c → Steps a b c e x a' b'
  unfolding answer_of answer_for counts_given counts_for first_after first_left second_after second_left first_for second_for step_in formula_left side_left
  steps-given k r a' b' m x g =
      let z = g ∙ ap (λ (y : Result Counts told.Refusal). given_back y c) m.answer ∙ given-back c (step_of (formula_in a b c) e) in
      record {
        answer = rw (← q, k) (ap (λ (y : Stepped). y.answer) z);
        counts = rw (← q, k) (ap (λ (y : Stepped). y.counts) z);
        first = rw (← q, k) m.stands.first;
        second = rw (← q, k) m.stands.second;
      }
