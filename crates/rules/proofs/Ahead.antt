-- The order of candidates in words, for the statement that the choice is the first; nothing is defined by it. Assumes nothing.
use Prim.Native.Nat.{ℕ}
use mathlib.Core.Bool.{Bool, ◌&&◌, ◌||◌}
use lib.Dec.{eqb, ltb}
use Rattle.meaning.specs.Formula.{Formula, mentions, right_of}
use Rattle.meaning.specs.WellFormed.{weight}
use Rattle.rules.specs.Entry.{Kind, unit, pure, subsume, strengthen, equality, resolve, expand}
use Rattle.rules.specs.Step.{result_of}

-- a stands left of c
unfoldable pub left_of : Formula → ℕ → ℕ → Bool
left_of φ a c = mentions (right_of a φ.prefix) c

-- "the lowest a, then b"
unfoldable pub pair_before : ℕ → ℕ → ℕ → ℕ → Bool
pair_before a b c d = ltb a c || (eqb a c && ltb b d)

-- "the least resulting weight, then the leftmost"
unfoldable pub lighter_than : Formula → Kind → ℕ → ℕ → Bool
lighter_than φ k a c =
    ltb (weight (result_of φ k a 0)) (weight (result_of φ k c 0))
    || (eqb (weight (result_of φ k a 0)) (weight (result_of φ k c 0)) && left_of φ a c)

-- of two steps of kind k, the one with a, b is taken rather than the one with c, d
unfoldable pub ahead : Formula → Kind → ℕ → ℕ → ℕ → ℕ → Bool
ahead φ unit a b c d = ltb a c
ahead φ pure a b c d = left_of φ a c
ahead φ subsume a b c d = pair_before a b c d
ahead φ strengthen a b c d = pair_before a b c d
ahead φ equality a b c d = pair_before a b c d
ahead φ resolve a b c d = lighter_than φ resolve a c
ahead φ expand a b c d = lighter_than φ expand a c
