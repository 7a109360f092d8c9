-- What is next in a run: an end, and why; or a step, and what it does. Assumes nothing.
use mathlib.Core.Path.{◌≡◌, refl, sym, ◌∙◌, ap, subst}
use Prim.Native.Nat.{ℕ, ◌<◌}
use native.Mathlib.Omega.{arith}
use mathlib.Core.Bool.{Bool, true, false, cond, false≢true}
use mathlib.Core.List.{List, [], ◌∷◌}
use Rattle.meaning.specs.Formula.{Formula}
use Rattle.meaning.specs.WellFormed.{fits, well_formed}
use Rattle.meaning.specs.Game.{empty_clause, truth, is_true, no_clause}
use Rattle.rules.specs.Entry.{Kind, entry}
use Rattle.rules.specs.Step.{result_of, stepped, step_of}
use Rattle.rules.specs.Choice.{allowed_call, Choice, take_step, stuck, choose}
use Rattle.rules.specs.Run.{End, true_end, false_end, finished, out_of_room, ended, stopped, over, step, next_of, next, step_bound}
use Rattle.meaning.proofs.Verdict.{none_true, empty-clause-false}
use Rattle.rules.proofs.Entries.{Fields, entry-small}
use Rattle.rules.proofs.Bound.{bound-falls}
use Rattle.rules.proofs.Kept.{Kept, step_kept, allowed-steps}
use Rattle.rules.proofs.Chosen.{choose-takes, takes-fields}
use Rattle.rules.proofs.Permitted.{allowed-wanted}

pub over-step {ℓ} : {A : Type ℓ} (e : End) (k : Kind) (a b : ℕ) → over e ≡ step k a b → A
over-step e k a b h = absurd (let z : ◌≡◌ {A = ℕ} 0 1 = cc in omega arith)

pub ended-stopped {ℓ} : {A : Type ℓ} (e : End) → ended e ≡ stopped → A
ended-stopped e h = absurd (let z : ◌≡◌ {A = ℕ} 0 1 = cc in omega arith)

pub next-step : (E : ℕ) (φ : Formula) (k : Kind) (a b : ℕ) → next E φ ≡ step k a b → choose E φ ≡ take_step k a b
unfolding next next_of
next-step E φ k a b h = go (empty_clause φ.clauses) (no_clause φ.clauses) (choose E φ) refl h
  where
    told : {j : Kind} {x y : ℕ} → step j x y ≡ step k a b → take_step j x y ≡ take_step k a b
    told q = cc

    go : (s t : Bool) (c : Choice) → choose E φ ≡ c → cond s (over false_end) (cond t (over true_end) (next_of c)) ≡ step k a b → choose E φ ≡ take_step k a b
    go true t c e i = over-step _ k a b i
    go false true c e i = over-step _ k a b i
    go false false (take_step j x y) e i = e ∙ told i
    go false false (stuck true) e i = over-step _ k a b i
    go false false (stuck false) e i = over-step _ k a b i

-- why a run ends
abbrev pub Why : ℕ → Formula → End → Type 0
Why E φ true_end = no_clause φ.clauses ≡ true
Why E φ false_end = empty_clause φ.clauses ≡ true
Why E φ out_of_room = choose E φ ≡ stuck true
Why E φ finished = choose E φ ≡ stuck false

pub next-over : (E : ℕ) (φ : Formula) (e : End) → next E φ ≡ over e → Why E φ e
unfolding next next_of
next-over E φ e h = go (empty_clause φ.clauses) (no_clause φ.clauses) (choose E φ) refl refl refl h
  where
    is : (d : End) → Why E φ d → over d ≡ over e → Why E φ e
    is d y q = let z : d ≡ e = cc in subst (Why E φ) z y

    go : (s t : Bool) (c : Choice) → empty_clause φ.clauses ≡ s → no_clause φ.clauses ≡ t → choose E φ ≡ c
        → cond s (over false_end) (cond t (over true_end) (next_of c)) ≡ over e → Why E φ e
    go true t c x y z i = is false_end x i
    go false true c x y z i = is true_end y i
    go false false (take_step j a b) x y z i = over-step e j a b (sym i)
    go false false (stuck true) x y z i = is out_of_room z i
    go false false (stuck false) x y z i = is finished z i

no-clause : (cs : List (List ℕ)) → no_clause cs ≡ true → cs ≡ []
unfolding no_clause
no-clause [] h = refl
no-clause (c ∷ cs) h = absurd (false≢true h)

-- the verdict that an end gives
pub end-true : (E : ℕ) (φ : Formula) → next E φ ≡ over true_end → is_true φ ≡ true
unfolding is_true
end-true E φ h = ap (λ (cs : List (List ℕ)). truth φ.prefix cs (λ _. false)) (no-clause φ.clauses (next-over E φ true_end h)) ∙ none_true φ.prefix (λ _. false)

pub end-false : (E : ℕ) (φ : Formula) → next E φ ≡ over false_end → is_true φ ≡ false
unfolding is_true
end-false E φ h = empty-clause-false φ.prefix φ.clauses (next-over E φ false_end h) (λ _. false)

-- One step of a run ------------------------------------------------------------------------------------------
pub record Going (E : ℕ) (φ : Formula) (k : Kind) (a b : ℕ) : Type 0 where
  pub steps : step_of φ (entry k a b) ≡ stepped (result_of φ k a b)
  pub kept : Kept φ (result_of φ k a b)
  pub falls : step_bound E (result_of φ k a b) < step_bound E φ
  pub small : entry k a b < 4294967296

pub going : (E : ℕ) (φ : Formula) → well_formed φ ≡ true → fits φ ≡ true → (k : Kind) (a b : ℕ) → next E φ ≡ step k a b → Going E φ k a b
going E φ w f k a b h =
    record { steps = s; kept = step_kept φ w (entry k a b) (result_of φ k a b) s; falls = bound-falls E φ w k a b (allowed-wanted E φ k a b counted); small = entry-small k a b i }
  where
    c : choose E φ ≡ take_step k a b
    c = next-step E φ k a b h

    i : Fields k a b
    i = takes-fields E φ f k a b c

    counted : allowed_call E φ k a b ≡ true
    counted = (choose-takes E φ k a b c).counts

    s : step_of φ (entry k a b) ≡ stepped (result_of φ k a b)
    s = allowed-steps E φ f k a b i counted
