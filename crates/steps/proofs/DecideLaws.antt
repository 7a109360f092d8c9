-- Strengthening is permitted where there is a literal for it.
-- Assumes nothing.
use Prim.Native.Nat.{ℕ}
use mathlib.Core.Path.{◌≡◌, refl}
use mathlib.Core.Bool.{Bool, true, false, cond}
use Rattle.std.specs.Prelude.{Some, None, is_some}
use Rattle.meaning.specs.Formula.{Formula}
use Rattle.rules.specs.Simplify.{strengthen_permitted, strengthen_lit}
use Rattle.permits.specs.Choices.{strengthening_of}

there : (b : Bool) (l : ℕ) → is_some (cond b (Some l) None) ≡ b
there true l = refl
there false l = refl

pub strengthen-some : (φ : Formula) (a b : ℕ) → is_some (strengthening_of φ a b) ≡ strengthen_permitted φ a b
unfolding strengthening_of
strengthen-some φ a b = there (strengthen_permitted φ a b) (strengthen_lit φ a b)
