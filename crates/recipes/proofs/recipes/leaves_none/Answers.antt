-- By the kind of turn.
-- Assumes nothing.
use Prim.Native.Nat.{ℕ}
use mathlib.Core.Path.{◌≡◌, refl}
use mathlib.Core.Bool.{false}
use Rattle.recipes.specs.declared.Turn.{Turn}
use Rattle.recipes.specs.declared.Turn.TheVariants.{Same, Drop, DropAt, Replace, Copy}
use Rattle.recipes.specs.Left.{leaves_none}
use Rattle.recipes.proofs.recipes.leaves_none.Goals as goal

pub returns-in-Copy : goal.returns-in-Copy
unfolding leaves_none
returns-in-Copy c = rw c.in-Copy.is

pub returns-in_default : goal.returns-in_default
unfolding leaves_none
returns-in_default c = go c.args.turn c.in_default.not-Copy
  where
    go : (t : Turn) → ((l s n : ℕ) → t ≡ Copy l s n → ⊥) → false ≡ leaves_none t
    go Same h = refl
    go (Drop l) h = refl
    go (DropAt b l) h = refl
    go (Replace l m) h = refl
    go (Copy l s n) h = absurd (h l s n refl)
