-- What the phases' arms give.
-- Assumes nothing.
use mathlib.Core.Path.{◌≡◌, refl}
use mathlib.Core.Bool.{false}
use Prim.Native.Nat.{ℕ}
use Rattle.qdimacs.specs.Read.{complete}
use Rattle.qdimacs.specs.declared.Phase.{Phase}
use Rattle.qdimacs.specs.declared.Phase.TheVariants.{AtP, AtCnf, AtM, AtC, Line, Open, Vars, Clause, Full}

pub not-complete : (ph : Phase) (c : ℕ) → (ph ≡ Line → ⊥) → (ph ≡ Full → ⊥) → false ≡ complete ph c
unfolding complete
not-complete AtP c h k = refl
not-complete AtCnf c h k = refl
not-complete AtM c h k = refl
not-complete AtC c h k = refl
not-complete Line c h k = absurd (h refl)
not-complete (Open q) c h k = refl
not-complete (Vars q) c h k = refl
not-complete Clause c h k = refl
not-complete Full c h k = absurd (k refl)
