-- The result of a step of kind 6 or 7 against a bound (document 01, "The run").
-- Assumes nothing.
use Rattle.std.specs.Prelude.{◌≡◌, ℕ, ◌≤◌, false, cond, ltb}
use Rattle.meaning.specs.Formula.{Formula}
use Rattle.meaning.specs.WellFormed.{weight, fits}
use Rattle.rules.specs.Simplify.{subsume_permitted}
use Rattle.rules.specs.Entry.{Kind}
use Rattle.rules.specs.Step.{permitted, result_of}
use Rattle.table.specs.declared.Counts.{Counts}
use Rattle.growth.specs.declared.Weighed.{Weighed}
use Rattle.growth.specs.declared.Weighed.TheVariants.{Over, Fitting, Wide}

-- "a result's weight is that of the whole result, whether it fits or not"
unfoldable pub weighed : ℕ → Formula → Weighed
weighed below ψ = cond (ltb (weight ψ) below) (cond (fits ψ) (Fitting (weight ψ)) Wide) Over

unfoldable pub weighed_step : ℕ → Formula → Kind → ℕ → Weighed
weighed_step below φ k a = cond (permitted φ k a 0) (weighed below (result_of φ k a 0)) Over

-- no clause is a part of another: there is no candidate of kind 3
abbrev pub NoneSubsumed : Formula → Type 0
NoneSubsumed φ = (a b : ℕ) → subsume_permitted φ a b ≡ false

-- counts, of a result that may pass every limit, whose sums are small numbers
pub record Summable (d : Counts) : Type 0 where
  pub variables : d.variables ≤ 2046
  pub clauses : d.clauses ≤ 5000000
  pub all-literals : d.literals ≤ 5000000000
