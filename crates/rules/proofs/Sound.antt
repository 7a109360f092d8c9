-- A permitted step gives a well formed formula of the same truth. Assumes nothing.
use mathlib.Core.Path.{◌≡◌, refl, ◌∙◌}
use Prim.Native.Nat.{ℕ}
use mathlib.Core.Bool.{true}
use Rattle.meaning.specs.Formula.{Formula}
use Rattle.meaning.specs.WellFormed.{well_formed}
use Rattle.meaning.specs.Tidy.{tidied}
use Rattle.rules.specs.Simplify.{unit_raw, pure_raw, subsume_raw, strengthen_raw, equality_raw}
use Rattle.rules.specs.Eliminate.{resolve_raw, expand_raw}
use Rattle.rules.specs.Entry.{Kind, unit, pure, subsume, strengthen, equality, resolve, expand}
use Rattle.rules.specs.Step.{permitted, result_of, raw_of}
use Rattle.rules.proofs.Resolve.{resolve-keeps}
use Rattle.meaning.proofs.Tidy.{tidied-truth}
use Rattle.meaning.proofs.WellFormed.{tidied-well-formed}
use Rattle.rules.proofs.Values.{Keeps, unit-keeps, pure-keeps}
use Rattle.rules.proofs.Clauses.{subsume-keeps, strengthen-keeps}
use Rattle.rules.proofs.Equality.{equality-keeps}
use Rattle.rules.proofs.Expand.{expand-keeps}
use Rattle.rules.proofs.Raws.{RawOk, unit_ok, pure-ok, subsume-ok, strengthen-ok, equality-ok, resolve-ok, expand-ok}

pub record Sound (φ ψ : Formula) : Type 0 where
  pub well : well_formed ψ ≡ true
  pub keeps : Keeps φ ψ

pub sound-of : (φ r : Formula) → Keeps φ r → RawOk r → Sound φ (tidied r)
sound-of φ r k ok = record { well = tidied-well-formed r ok.0 ok.1; keeps = λ ρ. tidied-truth r ok.0 ρ ∙ k ρ }

-- a permitted step gives a well formed formula of the same truth, whether it fits or not
pub step-sound : (φ : Formula) → well_formed φ ≡ true → (k : Kind) (a b : ℕ) → permitted φ k a b ≡ true → Sound φ (result_of φ k a b)
unfolding permitted result_of raw_of
step-sound φ w unit a b h = sound-of φ (unit_raw φ a) (unit-keeps φ w a h) (unit_ok φ w a)
step-sound φ w pure a b h = sound-of φ (pure_raw φ a) (pure-keeps φ w a h) (pure-ok φ w a)
step-sound φ w subsume a b h = sound-of φ (subsume_raw φ b) (subsume-keeps φ a b h) (subsume-ok φ w b)
step-sound φ w strengthen a b h = sound-of φ (strengthen_raw φ a b) (strengthen-keeps φ w a b h) (strengthen-ok φ w a b h)
step-sound φ w equality a b h = sound-of φ (equality_raw φ a) (equality-keeps φ w a b h) (equality-ok φ w a b h)
step-sound φ w resolve a b h = sound-of φ (resolve_raw φ a) (resolve-keeps φ w a h) (resolve-ok φ w a)
step-sound φ w expand a b h = sound-of φ (expand_raw φ a) (expand-keeps φ w a h) (expand-ok φ w a h)

-- for runs and replays
pub sound_none : (φ : Formula) → well_formed φ ≡ true → Sound φ φ
sound_none φ w = record { well = w; keeps = λ ρ. refl }

pub sound-then : (φ ψ χ : Formula) → Sound φ ψ → Sound ψ χ → Sound φ χ
sound-then φ ψ χ s t = record { well = t.well; keeps = λ ρ. t.keeps ρ ∙ s.keeps ρ }
