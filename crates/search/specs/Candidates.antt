-- The code's answer for a candidate of a kind, and for what it is made of.
-- Assumes nothing.
use Rattle.std.specs.Prelude.{ℕ, ◌≤◌, ◌<◌, ◌≡◌, Bool, true, false, get_or}
use mathlib.Core.List.{List, []}
use Rattle.meaning.specs.Formula.{Formula}
use Rattle.rules.specs.Entry.{Kind}
use Rattle.rules.specs.Step.{permitted}
use Rattle.rules.specs.Choice as rules
use Rattle.rules.specs.Choice.{none, found, first_b, seconds}
use Rattle.index.specs.Signs.{signature_of, Signs}
use Rattle.std.specs.Prelude.{Option, Some, None, min}
use Rattle.std.specs.List.{reduce}
use Rattle.meaning.specs.Lists.{keep_if}

unfoldable pub found_as : rules.Found → Option (ℕ × ℕ)
found_as none = None
found_as (found a b) = Some (a, b)

-- "the lowest a, then b": the first b for one a of a kind
unfoldable pub first_for : Formula → Kind → ℕ → rules.Found
first_for φ k a = first_b (permitted φ k a) a (seconds φ k)

-- Kinds 3 and 4, by signatures ----------------------------------------------------------------------------------
-- x is clause a and has the signature sign, and signs has the signatures of the clauses
pub record Signed (φ : Formula) (signs : List ℕ) (sign : ℕ) (x : List ℕ) (a : ℕ) : Type 0 where
  pub is : x ≡ get_or φ.clauses a []
  pub own : sign ≡ signature_of x
  pub all : Signs φ.clauses signs

-- Kind 4, by the lowest b ---------------------------------------------------------------------------------------
-- the lowest of the numbers of the list that pass the test
unfoldable pub lowest_of : (ℕ → Bool) → List ℕ → Option ℕ
lowest_of t l = reduce min (keep_if t l)

-- r is the lowest number below n that passes, or n where none does
pub record Lowest (t : ℕ → Bool) (n r : ℕ) : Type 0 where
  pub within : r ≤ n
  pub passes : r < n → t r ≡ true
  pub least : (b : ℕ) → b < r → t b ≡ false
