-- The first limit that a formula passes: it is the one named, and the only one. Assumes nothing.
use mathlib.Core.Path.{◌≡◌, refl, sym, ◌∙◌}
use mathlib.Core.Bool.{Bool, true, false, ◌&&◌, not, cond, true≢false}
use Rattle.meaning.specs.Formula.{Formula}
use Rattle.meaning.specs.WellFormed.{fits}
use Rattle.reasons.specs.Reason.{Limit, of_variables, of_clauses, of_literals, within, first_limit}
use Rattle.reasons.specs.Statement.{PassesFirst}

-- a formula fits exactly if it passes none of the three
pub fits-is : (ψ : Formula) → fits ψ ≡ (within of_variables ψ && (within of_clauses ψ && within of_literals ψ))
unfolding fits within
fits-is ψ = refl

pub limit-true : (ψ : Formula) → fits ψ ≡ false → PassesFirst ψ (first_limit ψ)
unfolding first_limit
limit-true ψ h = go (within of_variables ψ) (within of_clauses ψ) (within of_literals ψ) refl refl refl (sym (fits-is ψ) ∙ h)
  where
    go : (a b c : Bool) → within of_variables ψ ≡ a → within of_clauses ψ ≡ b → within of_literals ψ ≡ c → (a && (b && c)) ≡ false
        → PassesFirst ψ (cond (not a) of_variables (cond (not b) of_clauses of_literals))
    go false b c x y z k = x
    go true false c x y z k = (x, y)
    go true true false x y z k = (x, y, z)
    go true true true x y z k = absurd (true≢false k)

pub limit-only : (ψ : Formula) (l : Limit) → PassesFirst ψ l → (fits ψ ≡ false) × (first_limit ψ ≡ l)
unfolding first_limit
limit-only ψ of_variables h = (fits-is ψ ∙ rw h, rw h)
limit-only ψ of_clauses h = (fits-is ψ ∙ rw (h.0, h.1), rw (h.0, h.1))
limit-only ψ of_literals h = (fits-is ψ ∙ rw (h.0, h.1, h.2), rw (h.0, h.1))
