-- `run`, from its contract alone: it meets its demands, and two outcomes that conform coincide.
-- Assumes nothing.
use mathlib.Core.Path.{◌≡◌, refl, sym, ap, ◌∙◌}
use mathlib.Core.Bool.{Bool, true, false, cond}
use mathlib.Core.List.{List, ◌++◌}
use Prim.Native.Nat.{ℕ, ◌*◌, ◌/◌, ◌≤◌, ◌<◌, min}
use native.Mathlib.Omega.{arith}
use borrow.Author.Tests.{leb-true, leb-false}
use lib.Dec.{leb, eqb}
use lib.ListN.{length, take, drop}
use lib.Seq.{take_at, drop_at}
use Rattle.judging.specs.declared.Unfit.TheVariants as said
use Rattle.std.specs.Prelude.{Ok, Err}
use Rattle.running.specs.declared.runs.RunAnswer.TheVariants as says
use Rattle.rules.specs.Run as rules
use Rattle.meaning.specs.Formula.{Formula}
use Rattle.meaning.specs.Game.{is_true}
use Rattle.rules.specs.Entry.{log_bytes}
use Rattle.rules.specs.Choice.{blocked}
use Rattle.rules.specs.Run.{true_end, false_end, finished, out_of_room, ended, stopped, step_bound, end_number, outcome_number}
use Rattle.table.specs.Table.{counts_of}
use Rattle.judging.specs.Check.{Asked, asked}
use Rattle.table.specs.declared.Counts.{Counts}
use Rattle.course.specs.Course.{side_from}
use Rattle.standing.specs.Standing.{formula_in, first_for, second_for}
use Rattle.running.specs.Running.{run_number, outcome_answer, runs, refuses, heard_of, heard_for, ran_for, first_ran, second_ran, log_ran, heard_in, run_in, Runs}
use Rattle.demands.specs.Demands.{RunSays, RunDone, refused_number, RunDemands}
use Rattle.running.specs.declared.runs.RunAnswer.{RunAnswer}
use Rattle.running.specs.declared.runs.Ran.{Ran}
use Rattle.meaning.proofs.Basics.{false_of}
use Rattle.rules.proofs.Kept.{kept-true}
use Rattle.rules.proofs.RunRight.{RunRight}
use Rattle.course.proofs.RunLaws.{log-length}
use Rattle.demands.proofs.Promises.{running}
use Rattle.standing.proofs.LentLaws.{lends, stands-formula, stands-given}

-- the number of an outcome's answer is the outcome's
number_is : (o : rules.Outcome) → run_number (outcome_answer o) ≡ outcome_number o
unfolding run_number outcome_answer outcome_number end_number
number_is (ended true_end) = refl
number_is (ended false_end) = refl
number_is (ended finished) = refl
number_is (ended out_of_room) = refl
number_is stopped = refl

number-large : (o : rules.Outcome) → 20 ≤ outcome_number o
unfolding outcome_number end_number
number-large (ended true_end) = omega arith
number-large (ended false_end) = omega arith
number-large (ended finished) = omega arith
number-large (ended out_of_room) = omega arith
number-large stopped = omega arith

-- the outcome with a number; so outcomes with the same number are the same
unfoldable outcome_at : ℕ → rules.Outcome
outcome_at k = cond (eqb k 20) (ended true_end) (cond (eqb k 21) (ended false_end) (cond (eqb k 22) (ended finished) (cond (eqb k 23) (ended out_of_room) stopped)))

at-number : (o : rules.Outcome) → outcome_at (outcome_number o) ≡ o
unfolding outcome_at outcome_number end_number
at-number (ended true_end) = refl
at-number (ended false_end) = refl
at-number (ended finished) = refl
at-number (ended out_of_room) = refl
at-number stopped = refl

same_number : (o p : rules.Outcome) → outcome_number o ≡ outcome_number p → o ≡ p
same_number o p e = sym (at-number o) ∙ ap outcome_at e ∙ at-number p

-- What is said of the definition's run, by the outcome's number ------------------------------------------------
by_number : (E n : ℕ) (φ : Formula) (x : rules.Ran) → RunRight E n φ x → RunSays E n φ x.final (length x.log) (outcome_number x.outcome)
unfolding outcome_number end_number step_bound
by_number E n φ x h =
    record {
      few = h.few;
      within = h.limit;
      is-true = λ k. h.says-true (same_number x.outcome (ended true_end) k);
      is_false = λ k. h.says-false (same_number x.outcome (ended false_end) k);
      finished = λ k e.
          let y = h.says-finished (same_number x.outcome (ended finished) k) e in (y.0, false_of (blocked E x.final e) y.1);
      out-of-room = λ k. h.says-no-room (same_number x.outcome (ended out_of_room) k);
      stopped = λ k. h.says-stopped (same_number x.outcome stopped k);
      ends = λ room k. h.ends room (same_number x.outcome stopped k);
    }

module _ (a b : List ℕ) (c : Counts) (E limit : ℕ) (log : List ℕ) (r : Ran) (a' b' log' : List ℕ) (w : Runs a b c E limit log r a' b' log') where
  pub runs-once : (q : Ran) (x y l : List ℕ) → Runs a b c E limit log q x y l → (r ≡ q) × (a' ≡ x) × (b' ≡ y) × (log' ≡ l)
  runs-once q x y l v = (w.given ∙ sym v.given, w.first ∙ sym v.first, w.second ∙ sym v.second, w.written ∙ sym v.written)

  -- It runs ----------------------------------------------------------------------------------------------------
  module _ (g : asked a b c ≡ Ok tt) (l : E ≤ 1000) (h : heard_in a b c E ≡ runs) where
    abbrev x : rules.Ran
    x = run_in a b c E limit log

    abbrev side : Bool
    side = side_from c.second (length x.log)

    ran-is : r ≡ record { answer = outcome_answer x.outcome; counts = counts_of x.final side; steps = length x.log }
    unfolding ran_for
    ran-is = w.given ∙ rw h

    counts-are : r.counts ≡ counts_of x.final side
    counts-are = ap (λ (y : Ran). y.counts) ran-is

    steps-are : r.steps ≡ length x.log
    steps-are = ap (λ (y : Ran). y.steps) ran-is

    answer-number : run_number r.answer ≡ outcome_number x.outcome
    answer-number = ap (λ (y : Ran). run_number y.answer) ran-is ∙ number_is x.outcome

    first-is : a' ≡ first_for side x.final
    unfolding first_ran
    first-is = w.first ∙ rw h

    second_is : b' ≡ second_for side x.final
    unfolding second_ran
    second_is = w.second ∙ rw h

    log_is : log' ≡ log_bytes x.log ++ drop (4 * length x.log) log
    unfolding log_ran
    log_is = w.written ∙ rw h

    right : RunRight E (min limit (length log / 4)) (formula_in a b c) x
    unfolding run_in
    right = let k = lends a b c (asked a b c) refl g in running E limit (length log) (formula_in a b c) k.well k.holds.fitting

    final-is : formula_in a' b' r.counts ≡ x.final
    final-is = rw (counts-are, first-is, second_is) (stands-formula x.final side right.kept.room)

    logged-is : take (4 * r.steps) log' ≡ log_bytes x.log
    logged-is = rw (steps-are, log_is) (take_at (log_bytes x.log) (drop (4 * length x.log) log) (4 * length x.log) (log-length x.log))

    run-done : RunDone a b c E limit log r a' b' log'
    run-done =
        record {
          given = g;
          left = record {
            taken = rw (counts-are, first-is, second_is) (stands-given x.final side right.kept.room right.kept.well);
            same_truth = ap is_true final-is ∙ kept-true (formula_in a b c) x.final right.kept;
          };
          says = rw (final-is, steps-are, answer-number) (by_number E (min limit (length log / 4)) (formula_in a b c) x right);
          counted = steps-are;
          logged = logged-is;
          stays = rw (steps-are, log_is) (drop_at (log_bytes x.log) (drop (4 * length x.log) log) (4 * length x.log) (log-length x.log));
          replays = rw (logged-is, final-is, steps-are) right.replays;
        }

    ran : RunDemands a b c E limit log r a' b' log'
    ran =
        record {
          runs = λ _. run-done;
          accepts = λ _ _. omega (arith, answer-number, number-large x.outcome);
          refuses = λ k. absurd (omega (arith, answer-number, number-large x.outcome));
        }

  -- It is refused ----------------------------------------------------------------------------------------------
  refused : (y : RunAnswer) → heard_in a b c E ≡ refuses y → run_number y ≡ refused_number (asked a b c) → run_number y < 20
      → (asked a b c ≡ Ok tt → E ≤ 1000 → ⊥) → RunDemands a b c E limit log r a' b' log'
  unfolding ran_for first_ran second_ran log_ran
  refused y h k m n =
      let z : r ≡ record { answer = y; counts = c; steps = 0 } = w.given ∙ rw h in
      let j : run_number r.answer ≡ run_number y = ap (λ (q : Ran). run_number q.answer) z in
      record {
        runs = λ i. absurd (omega arith);
        accepts = λ g e. absurd (n g e);
        refuses = λ _. (
          j ∙ k,
          record { counts = ap (λ (q : Ran). q.counts) z; first = w.first ∙ rw h; second = w.second ∙ rw h },
          w.written ∙ rw h,
          ap (λ (q : Ran). q.steps) z,
        );
      }

  pub run-demands : RunDemands a b c E limit log r a' b' log'
  unfolding heard_in heard_for heard_of run_number refused_number
  run-demands = go (asked a b c) refl (leb E 1000) refl
    where
      no-given : (s : Asked) → asked a b c ≡ s → (s ≡ Ok tt → ⊥) → asked a b c ≡ Ok tt → E ≤ 1000 → ⊥
      no-given s g n k _ = n (sym g ∙ k)

      go : (s : Asked) → asked a b c ≡ s → (t : Bool) → leb E 1000 ≡ t → RunDemands a b c E limit log r a' b' log'
      go (Ok u) g true e = ran g (leb-true E 1000 e) (rw (g, e))
      go (Ok u) g false e = refused says.Allowance (rw (g, e)) (rw g) (omega arith) (λ _ l. omega (arith, leb-false E 1000 e))
      go (Err said.WrongLength) g t e =
          refused says.Length (rw g) (rw g) (omega arith) (no-given (Err said.WrongLength) g (λ k. let y : ◌≡◌ {A = ℕ} 0 1 = cc in omega arith))
      go (Err said.Malformed) g t e =
          refused says.Malformed (rw g) (rw g) (omega arith) (no-given (Err said.Malformed) g (λ k. let y : ◌≡◌ {A = ℕ} 0 1 = cc in omega arith))
