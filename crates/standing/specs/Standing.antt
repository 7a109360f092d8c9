-- Two lent tables before and after an operation that changes the formula (document 01, "Table and limits", "Numbers given back").
-- Assumes nothing.
use Rattle.std.specs.Prelude.{ℕ, Bool, cond, List, Ok, Err}
use Rattle.meaning.specs.Formula.{Formula}
use Rattle.table.specs.Table.{table_of, decode, empty_formula}
use Rattle.table.specs.Lent.{named}
use Rattle.table.specs.declared.Counts.{Counts}
use Rattle.judging.specs.Check.{Asked}

-- before: the formula in the table that the record names
unfoldable pub formula_in : List ℕ → List ℕ → Counts → Formula
formula_in first second c = decode (named first second c) c

-- after: ψ stands on one side, which is true for the second table, and "the spare table ends zero"
unfoldable pub first_for : Bool → Formula → List ℕ
first_for side ψ = cond side (table_of empty_formula) (table_of ψ)

unfoldable pub second_for : Bool → Formula → List ℕ
second_for side ψ = cond side (table_of ψ) (table_of empty_formula)

-- by what is said of the tables: with 1 and 2 there is "nothing written"
unfoldable pub first_left : Asked → List ℕ → Bool → Formula → List ℕ
first_left (Ok u) first side ψ = first_for side ψ
first_left (Err u) first side ψ = first

unfoldable pub second_left : Asked → List ℕ → Bool → Formula → List ℕ
second_left (Ok u) second side ψ = second_for side ψ
second_left (Err u) second side ψ = second
