-- Replay: each formula on the way keeps, what was applied is a beginning of the log, and a log may be replayed in two parts.
-- Assumes nothing.
use mathlib.Core.Path.{◌≡◌, refl, ◌∙◌, ap}
use Prim.Native.Nat.{ℕ, ◌+◌, ◌≤◌}
use native.Mathlib.Nat.{zero-add, suc-add}
use native.Mathlib.Omega.{arith}
use mathlib.Core.Bool.{true}
use mathlib.Core.List.{List, [], ◌∷◌, ◌++◌}
use lib.ListN.{length, take}
use Rattle.meaning.specs.Formula.{Formula}
use Rattle.rules.specs.Step.{Refusal, StepAnswer, refused, stepped, step_of}
use Rattle.rules.specs.Run.{all_applied, refused_by, Replayed, replayed_none, one_applied, replay_on, replay}
use Rattle.meaning.specs.WellFormed.{well_formed, fits}
use Rattle.rules.proofs.Kept.{Kept, kept-none, kept_then, step_kept}

-- What holds of an empty log, of one whose first entry is refused, and, with a step more, where it holds of the rest, holds of every replay.
pub replay-ind : (P : Formula → List ℕ → Replayed → Type 0)
    → ((φ : Formula) → P φ [] (replayed_none all_applied φ))
    → ((φ : Formula) (e : ℕ) (es : List ℕ) (x : Refusal) → step_of φ e ≡ refused x → P φ (e ∷ es) (replayed_none (refused_by x) φ))
    → ((φ : Formula) (e : ℕ) (es : List ℕ) (ψ : Formula) → step_of φ e ≡ stepped ψ → P ψ es (replay ψ es) → P φ (e ∷ es) (one_applied (replay ψ es)))
    → (φ : Formula) (es : List ℕ) → P φ es (replay φ es)
unfolding replay replay_on
replay-ind P none stop more φ [] = none φ
replay-ind P none stop more φ (e ∷ es) = go (step_of φ e) refl (λ ψ. replay-ind P none stop more ψ es)
  where
    go : (r : StepAnswer) → step_of φ e ≡ r → ((ψ : Formula) → P ψ es (replay ψ es)) → P φ (e ∷ es) (replay_on (λ ψ. replay ψ es) φ r)
    go (refused x) h ih = stop φ e es x h
    go (stepped ψ) h ih = more φ e es ψ h (ih ψ)

-- whatever the log: each formula on the way (the replay of each beginning of the log) is well formed, fits, and has the truth of the first
pub replay-kept : (φ : Formula) → well_formed φ ≡ true → fits φ ≡ true → (es : List ℕ) → Kept φ (replay φ es).formula
unfolding replayed_none one_applied
replay-kept φ w f es =
    replay-ind (λ φ es r. well_formed φ ≡ true → fits φ ≡ true → Kept φ r.formula)
    kept-none (λ φ e es x h. kept-none φ)
    (λ φ e es ψ h ih w f. let k : Kept φ ψ = step_kept φ w e ψ h in kept_then φ ψ (replay ψ es).formula k (ih k.well k.room))
    φ es w f

-- the formula that a replay leaves is that of the entries applied, none of which is refused
pub replay-beginning : (φ : Formula) (es : List ℕ)
    → replay φ (take (replay φ es).applied es) ≡ record { stop = all_applied; formula = (replay φ es).formula; applied = (replay φ es).applied }
unfolding replay replay_on replayed_none one_applied
replay-beginning =
    replay-ind (λ φ es r. replay φ (take r.applied es) ≡ record { stop = all_applied; formula = r.formula; applied = r.applied }) (λ φ. refl)
    (λ φ e es x h. refl) (λ φ e es ψ h ih. rw h (ap one_applied ih))

pub replay-count : (φ : Formula) (es : List ℕ) → (replay φ es).applied ≤ length es
unfolding replayed_none one_applied
replay-count = replay-ind (λ φ es r. r.applied ≤ length es) (λ φ. omega arith) (λ φ e es x h. omega arith) (λ φ e es ψ h ih. omega arith)

refused_all {ℓ} : {A : Type ℓ} (x : Refusal) → refused_by x ≡ all_applied → A
refused_all x q = absurd (let z : ◌≡◌ {A = ℕ} 0 1 = cc in omega arith)

-- a second log after one that was applied whole
unfoldable pub after : Replayed → Replayed → Replayed
after r s = record { stop = s.stop; formula = s.formula; applied = r.applied + s.applied }

pub replay-append : (φ : Formula) (es ds : List ℕ) → (replay φ es).stop ≡ all_applied
    → replay φ (es ++ ds) ≡ after (replay φ es) (replay (replay φ es).formula ds)
unfolding after replayed_none one_applied
replay-append φ es ds =
    replay-ind (λ φ es r. r.stop ≡ all_applied → replay φ (es ++ ds) ≡ after r (replay r.formula ds))
    (λ φ j. rw (zero-add (replay φ ds).applied)) (λ φ e es x h j. refused_all x j)
    (λ φ e es ψ h ih j. unfold replay replay_on in rw h (ap one_applied (ih j) ∙ rw suc-add))
    φ es

-- a beginning of a log that is applied whole is applied whole
pub replay-part : (φ : Formula) (es ds : List ℕ) → (replay φ (es ++ ds)).stop ≡ all_applied → (replay φ es).stop ≡ all_applied
unfolding replay replay_on replayed_none one_applied
replay-part φ es ds =
    replay-ind (λ φ es r. (replay φ (es ++ ds)).stop ≡ all_applied → r.stop ≡ all_applied) (λ φ j. refl) (λ φ e es x h j. rw h at j)
    (λ φ e es ψ h ih j. ih (rw h at j))
    φ es
