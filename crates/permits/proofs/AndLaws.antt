-- Two tests, one after the other: the second is made only where the first says true.
-- Assumes nothing.
use mathlib.Core.Path.{◌≡◌, sym, ◌∙◌}
use mathlib.Core.Bool.{Bool, true, false, ◌&&◌}

-- x and y are what the tests decide, p and r what they said
pub and_second : (x y p r : Bool) → p ≡ x → p ≡ true → r ≡ y → r ≡ (x && y)
and_second x y p r e t q = let z : x ≡ true = sym e ∙ t in rw z q

pub and_none : (x y p : Bool) → p ≡ x → p ≡ false → false ≡ (x && y)
and_none x y p e t = let z : x ≡ false = sym e ∙ t in rw z
