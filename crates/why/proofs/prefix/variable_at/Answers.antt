-- The variable of the number.
-- Assumes nothing.
use Prim.Native.Nat.{ℕ, ◌/◌}
use mathlib.Core.Path.{ap}
use Rattle.meaning.specs.Formula.{var}
use Rattle.why.proofs.prefix.variable_at.Goals as goal

pub returns : goal.returns
unfolding var
returns c = ap (λ (n : ℕ). n / 2) c.number_at_place.ensures
