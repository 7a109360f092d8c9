-- One step by its entry keeps well-formedness, truth and room. Assumes nothing.
use mathlib.Core.Path.{◌≡◌, refl, sym, ◌∙◌, ap, subst}
use Prim.Native.Nat.{ℕ}
use mathlib.Core.Bool.{true, false}
use Rattle.meaning.specs.Formula.{Formula}
use Rattle.meaning.specs.WellFormed.{fits, well_formed}
use Rattle.meaning.specs.Game.{is_true}
use Rattle.rules.specs.Entry.{Kind, entry, Call, bad, call, read_entry}
use Rattle.rules.specs.Step.{step_of, result_of, stepped, in_room, step_call}
use Rattle.rules.specs.Choice.{costly, wanted, allowed_call}
use Rattle.meaning.proofs.Basics.{by_cases, and_r}
use Rattle.rules.proofs.Values.{Keeps}
use Rattle.rules.proofs.Sound.{Sound, step-sound}
use Rattle.rules.proofs.Entries.{Fields, read-entry}
use Rattle.rules.proofs.Room.{cheap-fits}
use Rattle.rules.proofs.Answers.{Says, step-says}
use Rattle.rules.proofs.Permitted.{wanted-permitted, allowed-wanted}

-- Kept: what every formula on the way has --------------------------------------------------------------------
pub record Kept (φ ψ : Formula) : Type 0 where
  pub well : well_formed ψ ≡ true
  pub room : fits ψ ≡ true
  pub keeps : Keeps φ ψ

pub kept-none : (φ : Formula) → well_formed φ ≡ true → fits φ ≡ true → Kept φ φ
kept-none φ w h = record { well = w; room = h; keeps = λ ρ. refl }

pub kept_then : (φ ψ χ : Formula) → Kept φ ψ → Kept ψ χ → Kept φ χ
kept_then φ ψ χ s t = record { well = t.well; room = t.room; keeps = λ ρ. t.keeps ρ ∙ s.keeps ρ }

pub kept-true : (φ ψ : Formula) → Kept φ ψ → is_true ψ ≡ is_true φ
unfolding is_true
kept-true φ ψ s = s.keeps (λ _. false)

-- A step by its entry ----------------------------------------------------------------------------------------
-- every step that is taken, in a run or not, keeps
pub step_kept : (φ : Formula) → well_formed φ ≡ true → (e : ℕ) (ψ : Formula) → step_of φ e ≡ stepped ψ → Kept φ ψ
step_kept φ w e ψ h = go (read_entry e) (subst (Says φ (read_entry e)) h (step-says φ e))
  where
    go : (c : Call) → Says φ c (stepped ψ) → Kept φ ψ
    go bad x = absurd x
    go (call k a b) x = let s : Sound φ ψ = subst (Sound φ) x.2 (step-sound φ w k a b x.0) in record { well = s.well; room = ap fits (sym x.2) ∙ x.1; keeps = s.keeps }

-- a call that counts fits
pub allowed-fits : (E : ℕ) (φ : Formula) → fits φ ≡ true → (k : Kind) (a b : ℕ) → allowed_call E φ k a b ≡ true → fits (result_of φ k a b) ≡ true
unfolding allowed_call
allowed-fits E φ f k a b h = by_cases (costly k) (λ e. rw e at (and_r (wanted E φ k a b) _ h)) (λ e. cheap-fits φ k e a b f)

-- so its entry steps to its result
pub allowed-steps : (E : ℕ) (φ : Formula) → fits φ ≡ true → (k : Kind) (a b : ℕ) → Fields k a b → allowed_call E φ k a b ≡ true
    → step_of φ (entry k a b) ≡ stepped (result_of φ k a b)
unfolding step_of step_call in_room
allowed-steps E φ f k a b i h = rw (read-entry k a b i, wanted-permitted E φ k a b (allowed-wanted E φ k a b h), allowed-fits E φ f k a b h)
