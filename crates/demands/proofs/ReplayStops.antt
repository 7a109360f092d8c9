-- Where a replay stops: at its end with nothing refused, or at the first entry that is refused. Over the definition.
-- Assumes nothing.
use mathlib.Core.Path.{◌≡◌, refl, sym, ap, ◌∙◌}
use mathlib.Core.List.{List, ◌∷◌}
use Prim.Native.Nat.{ℕ, suc}
use native.Mathlib.Omega.{arith}
use lib.ListN.{length, drop}
use Rattle.meaning.specs.Formula.{Formula}
use Rattle.rules.specs.Step.{Refusal, refused, step_of}
use Rattle.rules.specs.Run.{all_applied, refused_by, Replayed, replayed_none, one_applied, replay}
use Rattle.rules.proofs.Replays.{replay-ind}

pub record StopsAt (es : List ℕ) (r : Replayed) (x : Refusal) : Type 0 where
  pub entry : ℕ
  pub rest : List ℕ
  pub next : drop r.applied es ≡ entry ∷ rest
  pub refuses : step_of r.formula entry ≡ refused x

refusal-path : {x y : Refusal} → refused_by x ≡ refused_by y → x ≡ y
refusal-path e = cc

no-refusal {ℓ} : {A : Type ℓ} (x : Refusal) → refused_by x ≡ all_applied → A
no-refusal x e = absurd (let z : ◌≡◌ {A = ℕ} 0 1 = cc in omega arith)

pub stops_at : (φ : Formula) (es : List ℕ) (x : Refusal) → (replay φ es).stop ≡ refused_by x → StopsAt es (replay φ es) x
unfolding replayed_none one_applied
stops_at φ es x =
    replay-ind (λ φ es r. r.stop ≡ refused_by x → StopsAt es r x)
    (λ φ e. no-refusal x (sym e))
    (λ φ e es y h k. record { entry = e; rest = es; next = refl; refuses = h ∙ ap refused (refusal-path k) })
    (λ φ e es ψ h ih k. let z = ih k in record { entry = z.entry; rest = z.rest; next = z.next; refuses = z.refuses })
    φ es

pub all-applied : (φ : Formula) (es : List ℕ) → (replay φ es).stop ≡ all_applied → (replay φ es).applied ≡ length es
unfolding replayed_none one_applied
all-applied =
    replay-ind (λ φ es r. r.stop ≡ all_applied → r.applied ≡ length es) (λ φ e. refl) (λ φ e es y h k. no-refusal y k)
    (λ φ e es ψ h ih k. ap suc (ih k))
