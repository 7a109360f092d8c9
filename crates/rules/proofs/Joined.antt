-- A run in two parts: the second from the formula that the first left. Assumes nothing.
use mathlib.Core.Path.{◌≡◌, sym, ◌∙◌, ap}
use Prim.Native.Nat.{ℕ, zero, suc, ◌+◌, ◌/◌, min}
use native.Mathlib.Nat.{zero-add, suc-add}
use mathlib.Core.List.{◌++◌}
use Rattle.meaning.specs.Formula.{Formula}
use Rattle.rules.specs.Entry.{entry}
use Rattle.rules.specs.Run.{run, End, ended, stopped, over, next, Ran, ran_nothing, logged, halt, onward, run_from}
use Rattle.rules.proofs.Runs.{run-ind, run-rest}
use Rattle.rules.proofs.Next.{ended-stopped}

unfoldable pub joined : Ran → Ran → Ran
joined r s = record { outcome = s.outcome; final = s.final; log = r.log ++ s.log }

pub run-joined : (E n m : ℕ) (φ : Formula) → (run_from E n φ).outcome ≡ stopped
    → run_from E (n + m) φ ≡ joined (run_from E n φ) (run_from E m (run_from E n φ).final)
unfolding joined ran_nothing logged
run-joined E n m =
    run-ind E (λ n φ r. r.outcome ≡ stopped → run_from E (n + m) φ ≡ joined r (run_from E m r.final)) (λ n φ e h j. ended-stopped e j)
    (λ φ k a b h j. rw (zero-add m)) (λ n φ k a b h ih j. rw (suc-add n m) (unfold run_from onward in rw h (ap (logged (entry k a b)) (ih j))))
    n

-- another run from the formula of one that ended takes no step and ends alike
pub run-again : (E n m : ℕ) (φ : Formula) (e : End) → (run_from E n φ).outcome ≡ ended e
    → run_from E m (run_from E n φ).final ≡ ran_nothing (ended e) (run_from E n φ).final
run-again E n m φ e h = at_rest m (run_from E n φ).final (run-rest E n φ e h)
  where
    at_rest : (m : ℕ) (ψ : Formula) → next E ψ ≡ over e → run_from E m ψ ≡ ran_nothing (ended e) ψ
    at_rest zero ψ i = unfold run_from halt in rw i
    at_rest (suc m) ψ i = unfold run_from onward in rw i

-- two parts by their limits and logs: the counts add up to that of the single run
pub run-continued : (E l₁ b₁ l₂ b₂ l b : ℕ) (φ : Formula) → min l₁ (b₁ / 4) + min l₂ (b₂ / 4) ≡ min l (b / 4) → (run E l₁ b₁ φ).outcome ≡ stopped
    → run E l b φ ≡ joined (run E l₁ b₁ φ) (run E l₂ b₂ (run E l₁ b₁ φ).final)
unfolding run
run-continued E l₁ b₁ l₂ b₂ l b φ e h = ap (λ (n : ℕ). run_from E n φ) (sym e) ∙ run-joined E (min l₁ (b₁ / 4)) (min l₂ (b₂ / 4)) φ h
