-- What a run is and says, in one statement. Assumes nothing.
use mathlib.Core.Path.{◌≡◌, refl}
use Prim.Native.Nat.{ℕ, ◌≤◌}
use native.Mathlib.Omega.{arith}
use mathlib.Core.Bool.{true, false}
use lib.ListN.{length}
use Rattle.meaning.specs.Formula.{Formula}
use Rattle.meaning.specs.WellFormed.{fits, well_formed}
use Rattle.meaning.specs.Game.{is_true}
use Rattle.rules.specs.Entry.{entry, log_bytes}
use Rattle.rules.specs.Choice.{allowed, blocked}
use Rattle.rules.specs.Run.{End, true_end, false_end, finished, out_of_room, ended, stopped, Next, over, step, next, Ran, run_from, step_bound, all_applied, replay_bytes}
use Rattle.rules.proofs.Kept.{Kept}
use Rattle.rules.proofs.Chosen.{takes-allowed}
use Rattle.rules.proofs.Runs.{run-kept, run-replay-bytes, run_length, run-limit, run-true, run-false, run-finished, run-no-room, run-stopped, run_ends}
use Rattle.rules.proofs.Next.{next-step}

-- what a run r with allowance E and at most n steps, from a well formed formula that fits, is and says
pub record RunRight (E n : ℕ) (φ : Formula) (r : Ran) : Type 0 where
  pub kept : Kept φ r.final
  pub replays : replay_bytes φ (log_bytes r.log) ≡ record { stop = all_applied; formula = r.final; applied = length r.log }
  pub few : length r.log ≤ step_bound E φ
  pub limit : length r.log ≤ n
  pub says-true : r.outcome ≡ ended true_end → is_true φ ≡ true
  pub says-false : r.outcome ≡ ended false_end → is_true φ ≡ false
  pub says-finished : r.outcome ≡ ended finished → (e : ℕ) → (allowed E r.final e ≡ false) × (blocked E r.final e ≡ true → ⊥)
  pub says-no-room : r.outcome ≡ ended out_of_room → ((e : ℕ) → allowed E r.final e ≡ false) × ((e : ℕ) × (blocked E r.final e ≡ true))
  pub says-stopped : r.outcome ≡ stopped → (length r.log ≡ n) × ((e : ℕ) × (allowed E r.final e ≡ true))
  pub ends : step_bound E φ ≤ n → r.outcome ≡ stopped → ⊥

stands : (E : ℕ) (φ : Formula) → fits φ ≡ true → (x : Next) → next E φ ≡ x → ((e : End) → next E φ ≡ over e → ⊥) → (e : ℕ) × (allowed E φ e ≡ true)
stands E φ f (over e) h n = absurd (n e h)
stands E φ f (step k a b) h n = (entry k a b, takes-allowed E φ f k a b (next-step E φ k a b h))

pub run-right : (E n : ℕ) (φ : Formula) → well_formed φ ≡ true → fits φ ≡ true → RunRight E n φ (run_from E n φ)
run-right E n φ w f =
    record {
      kept = run-kept E n φ w f;
      replays = run-replay-bytes E n φ w f;
      few = omega (arith, run_length E n φ w f);
      limit = run-limit E n φ;
      says-true = run-true E n φ w f;
      says-false = run-false E n φ w f;
      says-finished = run-finished E n φ;
      says-no-room = run-no-room E n φ w f;
      says-stopped = λ h. ((run-stopped E n φ h).0, stands E (run_from E n φ).final (run-kept E n φ w f).room (next E (run_from E n φ).final) refl (run-stopped E n φ h).1);
      ends = run_ends E n φ w f;
    }
