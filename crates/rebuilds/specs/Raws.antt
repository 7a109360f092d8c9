-- Formulas on their way into the target: a prefix alone, an entry more, raw clauses more.
-- Assumes nothing.
use Rattle.std.specs.Prelude.{◌≡◌, ℕ, Bool, cond, List, []}
use Rattle.meaning.specs.Formula.{Formula, is_var}
use Rattle.meaning.specs.Tidy.{build_on}
use Rattle.table.specs.Table.{with_variable, Holds}
use Rattle.table.specs.declared.Counts.{Counts}

-- the prefix alone
unfoldable pub bare : List ℕ → Formula
bare p = record { prefix = p; clauses = [] }

-- one entry more at the right end, unless it is of variable v
unfoldable pub keep_entry : ℕ → Formula → ℕ → Formula
keep_entry v ψ q = cond (is_var v q) ψ (with_variable ψ q)

-- raw clauses more, tidied in order
unfoldable pub with_raws : Formula → List (List ℕ) → Formula
with_raws ψ raws = record { prefix = ψ.prefix; clauses = build_on ψ.prefix ψ.clauses raws }

-- on the way from ψ with all raw clauses: formula stands in t with the counts e, and the rest of the raw clauses goes on from it
pub record Going (ψ : Formula) (all rest : List (List ℕ)) (b : Bool) (t : List ℕ) (e : Counts) : Type 0 where
  pub formula : Formula
  pub holds : Holds formula t e
  pub second : e.second ≡ b
  pub prefix : formula.prefix ≡ ψ.prefix
  pub left : with_raws formula rest ≡ with_raws ψ all
