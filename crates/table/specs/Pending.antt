-- A raw clause on its way into the table, literal by literal.
-- Assumes nothing.
use Rattle.std.specs.Prelude.{◌≡◌, ℕ, ◌≤◌, Bool, true, ◌&&◌, List, leb, length, take, Option, Some, None, is_none}
use Rattle.meaning.specs.Lists.{all_of}
use Rattle.meaning.specs.Formula.{var}
use Rattle.meaning.specs.Tidy.{Tidied, dropped, kept, ascending, both_phases}
use Rattle.meaning.specs.WellFormed.{max_variables}

-- the literal's variable is 1 to 1,023
unfoldable pub in_range : ℕ → Bool
in_range l = leb 1 (var l) && leb (var l) max_variables

-- no literal yet
abbrev pub empty_pending : Option ℕ
empty_pending = Some 0

-- the scratch s and p hold the raw clause: nothing of it, if it has both phases of a variable, and else its literals ascending, each once
pub record Pends (raw s : List ℕ) (p : Option ℕ) : Type 0 where
  pub room : length s ≡ max_variables
  pub within : (n : ℕ) → p ≡ Some n → n ≤ max_variables
  pub range : all_of in_range raw ≡ true
  pub phases : is_none p ≡ both_phases raw
  pub sorted : (n : ℕ) → p ≡ Some n → take n s ≡ ascending raw

-- they hold some raw clause
pub record Pended (s : List ℕ) (p : Option ℕ) : Type 0 where
  pub raw : List ℕ
  pub pends : Pends raw s p

-- What they hold once the clause is tidied: it is dropped, or stands in the first places.
unfoldable pub tidied_in : List ℕ → Option ℕ → Tidied
tidied_in s None = dropped
tidied_in s (Some m) = kept (take m s)
