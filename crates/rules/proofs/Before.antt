-- The order of the choice, by the lists that it goes through. Assumes nothing.
use Prim.Native.Nat.{ℕ}
use mathlib.Core.Bool.{Bool, false, ◌&&◌, ◌||◌, not, cond}
use mathlib.Core.List.{List, [], ◌∷◌, map}
use lib.Dec.{eqb, ltb}
use Rattle.meaning.specs.Formula.{Formula}
use Rattle.meaning.specs.WellFormed.{weight}
use Rattle.rules.specs.Entry.{Kind, code}
use Rattle.rules.specs.Step.{result_of}
use Rattle.rules.specs.Choice.{costly, firsts, seconds, kinds}

-- x is met in the list, and before y
unfoldable pub before : List ℕ → ℕ → ℕ → Bool
before [] x y = false
before (z ∷ l) x y = not (eqb z y) && (eqb z x || before l x y)

-- kind j is tried before kind k
unfoldable pub sooner : Kind → Kind → Bool
sooner j k = before (map code kinds) (code j) (code k)

-- (a, b) comes before (c, d) in the order of the kind's lists
unfoldable pub in_order : Formula → Kind → ℕ → ℕ → ℕ → ℕ → Bool
in_order φ k a b c d = before (firsts φ k) a c || (eqb a c && before (seconds φ k) b d)

-- and in kinds 6 and 7 by less resulting weight first
unfoldable pub precedes : Formula → Kind → ℕ → ℕ → ℕ → ℕ → Bool
precedes φ k a b c d =
    cond (costly k)
    (ltb (weight (result_of φ k a 0)) (weight (result_of φ k c 0)) || (eqb (weight (result_of φ k a 0)) (weight (result_of φ k c 0)) && before (firsts φ k) a c))
    (in_order φ k a b c d)
