-- What the answers of functions on tables mean.
-- Assumes nothing.
use Rattle.std.specs.Prelude.{◌≡◌, ℕ, Bool, true, cond, List, Option, Some, None}
use Rattle.meaning.specs.Formula.{Formula}
use Rattle.meaning.specs.WellFormed.{fits}
use Rattle.table.specs.Table.{table_of, counts_of}
use Rattle.table.specs.declared.Counts.{Counts}

-- φ was to become ψ: the answer r, and the table t after it. Where ψ does not fit, φ stays.
pub record Became (φ ψ : Formula) (second : Bool) (r : Option Counts) (t : List ℕ) : Type 0 where
  pub answer : r ≡ cond (fits ψ) (Some (counts_of ψ second)) None
  pub table : t ≡ cond (fits ψ) (table_of ψ) (table_of φ)

-- ψ was to be built: the answer r, and the table t where it fits (for loops that give up where it does not).
pub record Built (ψ : Formula) (second : Bool) (r : Option Counts) (t : List ℕ) : Type 0 where
  pub answer : r ≡ cond (fits ψ) (Some (counts_of ψ second)) None
  pub table : fits ψ ≡ true → t ≡ table_of ψ
