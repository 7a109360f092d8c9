-- Two calls one after the other, from their contracts: reading and a run, a run and the replay of its log.
-- Assumes nothing.
use mathlib.Core.Path.{◌≡◌, sym, ap, ◌∙◌}
use mathlib.Core.List.{List}
use Prim.Native.Nat.{ℕ, ◌*◌, ◌≤◌}
use native.Mathlib.Omega.{arith}
use lib.ListN.{take}
use Rattle.std.specs.Prelude.{Ok}
use Rattle.rules.specs.Run as rules
use Rattle.rules.specs.Run.{all_applied}
use Rattle.judging.specs.Check.{asked}
use Rattle.table.specs.declared.Counts.{Counts}
use Rattle.reader.specs.Reading.{read_number, Reads}
use Rattle.reader.specs.declared.Reading.{Reading}
use Rattle.standing.specs.Standing.{formula_in}
use Rattle.replaying.specs.Stepping.{step_number}
use Rattle.running.specs.Running.{run_number, Runs}
use Rattle.replaying.specs.Replaying.{stop_answer, replay_in, Replays}
use Rattle.demands.specs.Demands.{TextRead, RunDone, RunDemands, VerdictDemands, RetraceDemands}
use Rattle.running.specs.declared.runs.Ran.{Ran}
use Rattle.replaying.specs.declared.replays.Replayed.{Replayed}
use Rattle.demands.proofs.ReadDemands.{read-demands}
use Rattle.demands.proofs.RunDemands.{run-demands}
use Rattle.demands.proofs.ReplayDemands.{number_is, applied-is, final-is}

pub verdict : (text a b : List ℕ) (r : Reading) (a₁ b₁ : List ℕ) → Reads text a b r a₁ b₁ → read_number r.answer ≡ 0
    → (E limit : ℕ) (log : List ℕ) (q : Ran) (a₂ b₂ log' : List ℕ) → Runs a₁ b₁ r.counts E limit log q a₂ b₂ log' → VerdictDemands text E q
verdict text a b r a₁ b₁ w n E limit log q a₂ b₂ log' v =
    let t : TextRead text a₁ b₁ r.counts = (read-demands text a b r a₁ b₁ w).reads n in
    let k : RunDemands a₁ b₁ r.counts E limit log q a₂ b₂ log' = run-demands a₁ b₁ r.counts E limit log q a₂ b₂ log' v in
    let truth = sym t.left.same_truth in
    record {
      written = t.written;
      is-written = t.is-written;
      is-true = λ h. truth ∙ (k.runs (omega arith)).says.is-true h;
      is_false = λ h. truth ∙ (k.runs (omega arith)).says.is_false h;
      accepts = k.accepts t.left.taken;
    }

pub retrace : (a b : List ℕ) (c : Counts) (E limit : ℕ) (log : List ℕ) (r : Ran) (a' b' log' : List ℕ) → Runs a b c E limit log r a' b' log'
    → 20 ≤ run_number r.answer
    → (x y : List ℕ) (d : Counts) → asked x y d ≡ Ok tt → formula_in x y d ≡ formula_in a b c
    → (q : Replayed) (x' y' : List ℕ) → Replays x y d (take (4 * r.steps) log') q x' y'
    → RetraceDemands (formula_in a' b' r.counts) r.steps q x' y'
unfolding replay_in stop_answer step_number
retrace a b c E limit log r a' b' log' w n x y d g same q x' y' v =
    let k : RunDone a b c E limit log r a' b' log' = (run-demands a b c E limit log r a' b' log' w).runs n in
    let e : replay_in x y d (take (4 * r.steps) log') ≡ record { stop = all_applied; formula = formula_in a' b' r.counts; applied = r.steps } =
    rw same k.replays in
    record {
      none-refused = number_is x y d _ q x' y' v g ∙ ap (λ (z : rules.Replayed). step_number (stop_answer z.stop)) e;
      all-applied = applied-is x y d _ q x' y' v g ∙ ap (λ (z : rules.Replayed). z.applied) e;
      same-formula = final-is x y d _ q x' y' v g ∙ ap (λ (z : rules.Replayed). z.formula) e;
    }
