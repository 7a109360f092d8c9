-- The ways out of a run: refused, or as the run between the tables says.
-- Assumes nothing.
use mathlib.Core.Path.{◌≡◌, refl, sym, ap, ◌∙◌}
use mathlib.Core.List.{List}
use Prim.Native.Nat.{ℕ, ◌<◌, ◌≤◌}
use borrow.Author.Tests.{le-leb, lt-leb}
use lib.ListN.{length}
use Rattle.judging.specs.declared.Unfit.{Unfit}
use Rattle.std.specs.Prelude.{Ok, Err}
use Rattle.running.specs.declared.runs.RunAnswer.TheVariants as says
use Rattle.rules.specs.Run as rules
use Rattle.rules.specs.Run.{true_end, false_end, finished, out_of_room, ended, stopped}
use Rattle.judging.specs.Check.{Asked, asked}
use Rattle.table.specs.declared.Counts.{Counts}
use Rattle.choice.specs.Chosen.{end_as}
use Rattle.course.specs.Course.{outcome_as, RanAs}
use Rattle.course.specs.declared.Running.{Running}
use Rattle.standing.specs.Standing.{formula_in, first_for, second_for}
use Rattle.running.specs.Running.{unfit_answer, outcome_answer, runs, refuses, heard_of, heard_for, ran_for, first_ran, second_ran, log_ran, heard_in, run_in, Runs, answer_back, ran_back}
use Rattle.running.specs.declared.runs.RunAnswer.{RunAnswer}
use Rattle.running.specs.declared.runs.Ran.{Ran}

answer-back : (o : rules.Outcome) → answer_back (outcome_as o) ≡ outcome_answer o
unfolding answer_back outcome_as end_as outcome_answer
answer-back (ended true_end) = refl
answer-back (ended false_end) = refl
answer-back (ended finished) = refl
answer-back (ended out_of_room) = refl
answer-back stopped = refl

module _ (a b : List ℕ) (c : Counts) (E limit : ℕ) (log : List ℕ) (s : Asked) (q : s ≡ asked a b c) where
  refused : (x : RunAnswer) → heard_in a b c E ≡ refuses x → Runs a b c E limit log (record { answer = x; counts = c; steps = 0 }) a b log
  unfolding ran_for first_ran second_ran log_ran
  refused x h = record { given = rw h; first = rw h; second = rw h; written = rw h }

  pub runs-unfit : (u : Unfit) → s ≡ Err u → (r : Ran) → r ≡ record { answer = unfit_answer u; counts = c; steps = 0 } → Runs a b c E limit log r a b log
  unfolding heard_in heard_for
  runs-unfit u k r e = rw e (refused (unfit_answer u) (ap (λ x. heard_for x E) (sym q ∙ k)))

  pub runs-allowance : s ≡ Ok tt → 1000 < E → (r : Ran) → r ≡ record { answer = says.Allowance; counts = c; steps = 0 } → Runs a b c E limit log r a b log
  unfolding heard_in heard_for heard_of
  runs-allowance k l r e = rw e (refused says.Allowance (ap (λ x. heard_for x E) (sym q ∙ k) ∙ ap heard_of (lt-leb E 1000 l)))

  pub runs-given : s ≡ Ok tt → E ≤ 1000 → (r : Running) (a' b' log' : List ℕ) → RanAs (rules.run E limit (length log) (formula_in a b c)) c.second log r a' b' log' → (x : Ran) → x ≡ ran_back r → Runs a b c E limit log x a' b' log'
  unfolding heard_in heard_for heard_of ran_for first_ran second_ran log_ran first_for second_for run_in ran_back
  runs-given k l r a' b' log' m x g =
      let h : heard_in a b c E ≡ runs = ap (λ x. heard_for x E) (sym q ∙ k) ∙ ap heard_of (le-leb E 1000 l) in
      record {
        given = rw h (g ∙ rw (m.outcome, m.steps, m.here.counts, answer-back (run_in a b c E limit log).outcome));
        first = rw h m.here.stands.first;
        second = rw h m.here.stands.second;
        written = rw h m.written;
      }
