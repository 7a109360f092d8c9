-- What is known of the clauses with the other literal: which literals the near ones have.
-- Assumes nothing.
use Rattle.std.specs.Prelude.{ℕ, Bool, ◌&&◌, ◌||◌, not, cond}
use mathlib.Core.List.{List, foldl}
use Rattle.meaning.specs.Lists.{has}
use Rattle.meaning.specs.Formula.{opposite}
use Rattle.table.specs.Ranks.{stays_by}
use Rattle.flags.specs.Flags.{flag, raised}
use Rattle.thinning.specs.Thin.{near}

-- a clause has o and is near
unfoldable pub near_with : List ℕ → ℕ → ℕ → List ℕ → Bool
near_with ranks e o c = has o c && near ranks e c

-- the flags with those of a clause's literals raised, where it passes the test
unfoldable pub met_if : (List ℕ → Bool) → List ℕ → List ℕ → List ℕ
met_if f w c = cond (f c) (foldl raised w c) w

-- a literal stays, or its opposite is not flagged
unfoldable pub safe : List ℕ → ℕ → List ℕ → ℕ → Bool
safe ranks e met l = stays_by ranks e l || not (flag met (opposite l))
