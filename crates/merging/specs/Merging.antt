-- Two clauses that are merged into one ascending list, literal by literal.
-- Assumes nothing.
use Rattle.std.specs.Prelude.{◌≡◌, ℕ, ◌+◌, ◌≤◌, true, List, [], ◌∷◌, ◌++◌, ltb, length, take, drop}
use Rattle.meaning.specs.Lists.{all_of, without}
use Rattle.meaning.specs.Formula.{var}
use Rattle.meaning.specs.Tidy.{ascending, both_phases}
use Rattle.meaning.specs.WellFormed.{ascends}
use Rattle.table.specs.Pending.{in_range}
use Rattle.merging.specs.declared.Merging.{Merging}

-- the next literal; at the end a number above all literals
unfoldable pub head_of : List ℕ → ℕ
head_of [] = 4095
head_of (l ∷ c) = l

-- what the two clauses come to, raw: each without one literal
unfoldable pub joined : ℕ → ℕ → List ℕ → List ℕ → List ℕ
joined o k x y = without o x ++ without k y

-- a clause as a well formed formula has it: its variables are 1 to 1,023 and ascend
pub record Ordered (x : List ℕ) : Type 0 where
  pub range : all_of in_range x ≡ true
  pub rise : ascends x ≡ true

-- a clause of which the variables are n + 1 to 1,023 and ascend
pub record Above (n : ℕ) (x : List ℕ) : Type 0 where
  pub low : all_of (λ l. ltb n (var l)) x ≡ true
  pub range : all_of in_range x ≡ true
  pub rise : ascends x ≡ true

-- Of the raw clause the n literals of the front are merged; x and y are left.
pub record Partway (raw front : List ℕ) (n o k : ℕ) (x y : List ℕ) : Type 0 where
  pub one : Above n x
  pub other : Above n y
  pub sorted : ascending raw ≡ front ++ ascending (joined o k x y)
  pub phases : both_phases raw ≡ both_phases (ascending (joined o k x y))

-- The two clauses x and y on their way into the scratch s, without the literals o of x and o + 1 of y.
pub record Merges (o : ℕ) (x y s : List ℕ) (m : Merging) : Type 0 where
  pub room : length s ≡ 1023
  pub within : m.size ≤ 1023
  pub first : m.first ≤ length x
  pub second : m.second ≤ length y
  pub part : Partway (joined o (o + 1) x y) (take m.size s) m.size o (o + 1) (drop m.first x) (drop m.second y)
