-- An existential that the clauses define by variables left of it or in its own stretch is replaced by what they say. Assumes nothing.
use mathlib.Core.Path.{◌≡◌, ◌∙◌, ap}
use Prim.Native.Nat.{ℕ}
use mathlib.Core.Bool.{Bool, false, not}
use mathlib.Core.List.{List, ◌∷◌}
use Rattle.meaning.specs.Formula.{odd}
use Rattle.meaning.specs.Game.{Values, with_value, game}
use Rattle.rules.specs.Eliminate.{from_universal}
use Rattle.meaning.proofs.Basics.{clash}
use Rattle.meaning.proofs.Game.{FreeOf, exists-best}
use Rattle.rules.proofs.Place.{Place}
use Rattle.rules.proofs.Resolve.{exists-here}

-- g is what the clauses say of the variable a: where a has the other value they fail. Then a is replaced by g.
pub define-here : (p : List ℕ) (a : ℕ) (at : Place p a) → odd at.entry ≡ false → (m g : Values → Bool) → FreeOf (from_universal at.right) g
    → ((τ : Values) → m (with_value τ a (not (g τ))) ≡ false) → (σ : Values) → game (at.entry ∷ at.right) m σ ≡ game at.right (λ τ. m (with_value τ a (g τ))) σ
define-here p a at ev m g free fails =
    exists-here p a at ev m (λ τ. m (with_value τ a (g τ))) (λ out τ. exists-best at.entry (from_universal at.right) out g free m ev
    (λ υ h. clash h (ap (λ (v : ℕ). m (with_value υ v (not (g υ)))) at.is ∙ fails υ)) τ
    ∙ ap (λ (v : ℕ). game (from_universal at.right) (λ υ. m (with_value υ v (g υ))) τ) at.is)
