-- The resolvent of two clauses, and when a clause may be what tidying leaves of it.
-- Assumes nothing.
use Rattle.std.specs.Prelude.{ℕ, Bool, false, ◌||◌, List, ◌++◌, eqb}
use Rattle.meaning.specs.Lists.{all_of, has, same, without}
use Rattle.meaning.specs.Formula.{var, plain, negated, universal}
use Rattle.meaning.specs.Tidy.{Tidied, dropped, kept}

-- the resolvent of two clauses, raw
unfoldable pub resolvent : ℕ → List ℕ → List ℕ → List ℕ
resolvent a x y = without (plain a) x ++ without (negated a) y

-- every literal of the clause c is in one of the two
unfoldable pub covers : List ℕ → List ℕ → List ℕ → Bool
covers x y c = all_of (λ l. has l x || has l y) c

-- The literal l of a clause, of which the variable with the literal out is resolved, is in what tidying leaves of the resolvent, c:
-- tidying takes away universals only
unfoldable pub stays_in : List ℕ → List ℕ → ℕ → ℕ → Bool
stays_in p c out l = eqb l out || (has l c || universal p (var l))

unfoldable pub fits_in : List ℕ → List ℕ → ℕ → List ℕ → Bool
fits_in p c out x = all_of (stays_in p c out) x

-- what was tidied is the clause c
unfoldable pub becomes : List ℕ → Tidied → Bool
becomes c dropped = false
becomes c (kept d) = same c d
