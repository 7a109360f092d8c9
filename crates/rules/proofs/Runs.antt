-- The laws of a run: its log, its truth, its room, its steps and its end. Assumes nothing.
use mathlib.Core.Path.{◌≡◌, refl, sym, ◌∙◌, ap}
use Prim.Native.Nat.{ℕ, zero, suc, ◌+◌, ◌≤◌}
use native.Mathlib.Omega.{arith}
use mathlib.Core.Bool.{true, false, false≢true}
use mathlib.Core.List.{List, ◌++◌}
use lib.Dec.{ltb}
use lib.ListN.{length}
use borrow.Author.Tests.{lt-ltb}
use Rattle.meaning.specs.Lists.{all_of}
use Rattle.meaning.specs.Formula.{Formula}
use Rattle.meaning.specs.WellFormed.{fits, well_formed}
use Rattle.meaning.specs.Game.{is_true}
use Rattle.rules.specs.Entry.{Kind, entry, log_bytes}
use Rattle.rules.specs.Step.{result_of}
use Rattle.rules.specs.Choice.{allowed, blocked, stuck, choose}
use Rattle.rules.specs.Run.{End, true_end, false_end, finished, out_of_room, ended, stopped, Next, over, step, next, Ran, ran_nothing, logged, halt, onward, run_from, step_bound, all_applied, Replayed, replayed_none, one_applied, replay_on, replay, replay_read, replay_bytes, Outcome}
use Rattle.meaning.proofs.Basics.{and_i}
use Rattle.rules.proofs.Entries.{log-bytes}
use Rattle.rules.proofs.Replays.{replay-part, replay-kept}
use Rattle.rules.proofs.Kept.{Kept, kept-true}
use Rattle.rules.proofs.Chosen.{stuck-none, stuck-blocked, stuck-room}
use Rattle.rules.proofs.Next.{over-step, ended-stopped, next-over, end-true, end-false, Going, going}

-- By the steps left ------------------------------------------------------------------------------------------
-- What holds of a run that is over, of one with no step left, and, with a step more, where it holds of the rest, holds of every run.
pub run-ind : (E : ℕ) (P : ℕ → Formula → Ran → Type 0)
    → ((n : ℕ) (φ : Formula) (e : End) → next E φ ≡ over e → P n φ (ran_nothing (ended e) φ))
    → ((φ : Formula) (k : Kind) (a b : ℕ) → next E φ ≡ step k a b → P 0 φ (ran_nothing stopped φ))
    → ((n : ℕ) (φ : Formula) (k : Kind) (a b : ℕ) → next E φ ≡ step k a b → P n (result_of φ k a b) (run_from E n (result_of φ k a b)) → P (suc n) φ (logged (entry k a b) (run_from E n (result_of φ k a b))))
    → (n : ℕ) (φ : Formula) → P n φ (run_from E n φ)
unfolding run_from halt onward
run-ind E P ends stops more zero φ = go (next E φ) refl
  where
    go : (x : Next) → next E φ ≡ x → P 0 φ (halt φ x)
    go (over e) h = ends 0 φ e h
    go (step k a b) h = stops φ k a b h
run-ind E P ends stops more (suc n) φ = go (next E φ) refl (λ k a b. run-ind E P ends stops more n (result_of φ k a b))
  where
    go : (x : Next) → next E φ ≡ x → ((k : Kind) (a b : ℕ) → P n (result_of φ k a b) (run_from E n (result_of φ k a b)))
        → P (suc n) φ (onward (λ ψ. run_from E n ψ) φ x)
    go (over e) h ih = ends (suc n) φ e h
    go (step k a b) h ih = more n φ k a b h (ih k a b)

-- the same from a well formed formula that fits, with what is known of the step
pub run-going : (E : ℕ) (P : ℕ → Formula → Ran → Type 0)
    → ((n : ℕ) (φ : Formula) (o : Outcome) → P n φ (ran_nothing o φ))
    → ((n : ℕ) (φ : Formula) (k : Kind) (a b : ℕ) (r : Ran) → Going E φ k a b → P n (result_of φ k a b) r → P (suc n) φ (logged (entry k a b) r))
    → (n : ℕ) (φ : Formula) → well_formed φ ≡ true → fits φ ≡ true → P n φ (run_from E n φ)
run-going E P none more =
    run-ind E (λ n φ r. well_formed φ ≡ true → fits φ ≡ true → P n φ r) (λ n φ e h w f. none n φ (ended e)) (λ φ k a b h w f. none 0 φ stopped)
    (λ n φ k a b h ih w f. let g : Going E φ k a b = going E φ w f k a b h in more n φ k a b (run_from E n (result_of φ k a b)) g (ih g.kept.well g.kept.room))

-- The log and the formulas on the way ------------------------------------------------------------------------
-- its log replays to its formula, with nothing refused and every entry applied
pub run-replay : (E n : ℕ) (φ : Formula) → well_formed φ ≡ true → fits φ ≡ true
    → replay φ (run_from E n φ).log ≡ record { stop = all_applied; formula = (run_from E n φ).final; applied = length (run_from E n φ).log }
unfolding ran_nothing logged replay replayed_none replay_on one_applied
run-replay E =
    run-going E (λ n φ r. replay φ r.log ≡ record { stop = all_applied; formula = r.final; applied = length r.log }) (λ n φ o. refl)
    (λ n φ k a b r g ih. rw g.steps (ap one_applied ih))

pub run-entries : (E n : ℕ) (φ : Formula) → well_formed φ ≡ true → fits φ ≡ true → all_of (λ e. ltb e 4294967296) (run_from E n φ).log ≡ true
unfolding ran_nothing logged all_of
run-entries E =
    run-going E (λ n φ r. all_of (λ e. ltb e 4294967296) r.log ≡ true) (λ n φ o. refl)
    (λ n φ k a b r g ih. and_i _ _ (lt-ltb (entry k a b) 4294967296 g.small) ih)

pub run-replay-bytes : (E n : ℕ) (φ : Formula) → well_formed φ ≡ true → fits φ ≡ true
    → replay_bytes φ (log_bytes (run_from E n φ).log) ≡ record { stop = all_applied; formula = (run_from E n φ).final; applied = length (run_from E n φ).log }
unfolding replay_bytes replay_read
run-replay-bytes E n φ w f = rw (log-bytes (run_from E n φ).log (run-entries E n φ w f)) (run-replay E n φ w f)

pub run-kept : (E n : ℕ) (φ : Formula) → well_formed φ ≡ true → fits φ ≡ true → Kept φ (run_from E n φ).final
run-kept E n φ w f = rw (run-replay E n φ w f) at (replay-kept φ w f (run_from E n φ).log)

-- every formula on the way: after each beginning of the log
pub run-way : (E n : ℕ) (φ : Formula) → well_formed φ ≡ true → fits φ ≡ true → (es ds : List ℕ) → (run_from E n φ).log ≡ es ++ ds
    → ((replay φ es).stop ≡ all_applied) × Kept φ (replay φ es).formula
run-way E n φ w f es ds h = (replay-part φ es ds (ap (λ (l : List ℕ). (replay φ l).stop) (sym h) ∙ ap (λ (r : Replayed). r.stop) (run-replay E n φ w f)), replay-kept φ w f es)

-- The steps --------------------------------------------------------------------------------------------------
-- each step lowers the bound by at least 1
pub run_length : (E n : ℕ) (φ : Formula) → well_formed φ ≡ true → fits φ ≡ true
    → length (run_from E n φ).log + step_bound E (run_from E n φ).final ≤ step_bound E φ
unfolding ran_nothing logged
run_length E = run-going E (λ n φ r. length r.log + step_bound E r.final ≤ step_bound E φ) (λ n φ o. omega arith) (λ n φ k a b r g ih. omega arith)

-- never more steps than there were
pub run-limit : (E n : ℕ) (φ : Formula) → length (run_from E n φ).log ≤ n
unfolding ran_nothing logged
run-limit E = run-ind E (λ n φ r. length r.log ≤ n) (λ n φ e h. omega arith) (λ φ k a b h. omega arith) (λ n φ k a b h ih. omega arith)

-- with as many steps as the bound it does not stop
pub run_ends : (E n : ℕ) (φ : Formula) → well_formed φ ≡ true → fits φ ≡ true → step_bound E φ ≤ n → (run_from E n φ).outcome ≡ stopped → ⊥
unfolding ran_nothing logged
run_ends E =
    run-ind E (λ n φ r. well_formed φ ≡ true → fits φ ≡ true → step_bound E φ ≤ n → r.outcome ≡ stopped → ⊥) (λ n φ e h w f l j. ended-stopped e j)
    (λ φ k a b h w f l j. let g : Going E φ k a b = going E φ w f k a b h in omega arith)
    (λ n φ k a b h ih w f l j. let g : Going E φ k a b = going E φ w f k a b h in ih g.kept.well g.kept.room (omega arith) j)

-- The end ----------------------------------------------------------------------------------------------------
-- where it ended, the formula left has that end next
pub run-rest : (E n : ℕ) (φ : Formula) (e : End) → (run_from E n φ).outcome ≡ ended e → next E (run_from E n φ).final ≡ over e
unfolding ran_nothing logged
run-rest E =
    run-ind E (λ n φ r. (e : End) → r.outcome ≡ ended e → next E r.final ≡ over e) (λ n φ d h e j. let z : d ≡ e = cc in h ∙ ap over z)
    (λ φ k a b h e j. ended-stopped e (sym j)) (λ n φ k a b h ih. ih)

-- where it stopped, every step that was left is taken and a candidate stands
pub run-stopped : (E n : ℕ) (φ : Formula) → (run_from E n φ).outcome ≡ stopped
    → (length (run_from E n φ).log ≡ n) × ((e : End) → next E (run_from E n φ).final ≡ over e → ⊥)
unfolding ran_nothing logged
run-stopped E =
    run-ind E (λ n φ r. r.outcome ≡ stopped → (length r.log ≡ n) × ((e : End) → next E r.final ≡ over e → ⊥)) (λ n φ e h j. ended-stopped e j)
    (λ φ k a b h j. (refl, λ e i. over-step e k a b (sym i ∙ h))) (λ n φ k a b h ih j. (ap suc (ih j).0, (ih j).1))

-- TRUE and FALSE are the truth of the start
pub run-true : (E n : ℕ) (φ : Formula) → well_formed φ ≡ true → fits φ ≡ true → (run_from E n φ).outcome ≡ ended true_end → is_true φ ≡ true
run-true E n φ w f h = sym (kept-true φ (run_from E n φ).final (run-kept E n φ w f)) ∙ end-true E (run_from E n φ).final (run-rest E n φ true_end h)

pub run-false : (E n : ℕ) (φ : Formula) → well_formed φ ≡ true → fits φ ≡ true → (run_from E n φ).outcome ≡ ended false_end → is_true φ ≡ false
run-false E n φ w f h = sym (kept-true φ (run_from E n φ).final (run-kept E n φ w f)) ∙ end-false E (run_from E n φ).final (run-rest E n φ false_end h)

-- FINISHED: no entry counts, and none fails only for room; OUT OF ROOM: none counts, and one fails only for room
pub run-finished : (E n : ℕ) (φ : Formula) → (run_from E n φ).outcome ≡ ended finished → (e : ℕ)
    → (allowed E (run_from E n φ).final e ≡ false) × (blocked E (run_from E n φ).final e ≡ true → ⊥)
run-finished E n φ h e =
    let c : choose E (run_from E n φ).final ≡ stuck false = next-over E (run_from E n φ).final finished (run-rest E n φ finished h) in
    (stuck-none E (run_from E n φ).final false c e, λ b. false≢true (stuck-blocked E (run_from E n φ).final false c e b))

pub run-no-room : (E n : ℕ) (φ : Formula) → well_formed φ ≡ true → fits φ ≡ true → (run_from E n φ).outcome ≡ ended out_of_room
    → ((e : ℕ) → allowed E (run_from E n φ).final e ≡ false) × ((e : ℕ) × (blocked E (run_from E n φ).final e ≡ true))
run-no-room E n φ w f h =
    let c : choose E (run_from E n φ).final ≡ stuck true = next-over E (run_from E n φ).final out_of_room (run-rest E n φ out_of_room h) in
    (stuck-none E (run_from E n φ).final true c, stuck-room E (run_from E n φ).final (run-kept E n φ w f).room c)
