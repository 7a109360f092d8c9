-- Which tables are refused as MALFORMED, and the literals of a table (document 01, "Table and limits", "Numbers given back").
-- Assumes nothing.
use Rattle.std.specs.Prelude.{ℕ, Bool, ◌&&◌, cond, List, [], eqb, length, Result, Ok, Err}
use Rattle.meaning.specs.Lists.{same}
use Rattle.meaning.specs.Formula.{Formula}
use Rattle.meaning.specs.WellFormed.{well_formed, literals, fits}
use Rattle.table.specs.Table.{all_literals, table_of, decode}
use Rattle.table.specs.Lent.{named, right_lengths}
use Rattle.table.specs.declared.Counts.{Counts}
use Rattle.judging.specs.declared.Unfit.{Unfit}
use Rattle.judging.specs.declared.Unfit.TheVariants.{WrongLength, Malformed}

-- the counts are those of the formula
unfoldable pub counted : Formula → Counts → Bool
counted φ c = eqb c.variables (length φ.prefix) && (eqb c.clauses (length φ.clauses) && eqb c.literals (literals φ.clauses))

-- "the layout holds": the table is that of the formula in it, and so are the counts
unfoldable pub layout_holds : List ℕ → Counts → Bool
layout_holds t c = fits (decode t c) && (counted (decode t c) c && same t (table_of (decode t c)))

-- "table and counts not a well formed formula" is MALFORMED; this is the opposite
unfoldable pub good_table : List ℕ → Counts → Bool
good_table t c = layout_holds t c && well_formed (decode t c)

-- Two lent tables ----------------------------------------------------------------------------------------------
-- "Order: 1, 2": what is said of a table of the right length, and of a call that looks at both tables
abbrev pub Asked : Type 0
Asked = Result (Unit {0}) Unfit

unfoldable pub judged : List ℕ → Counts → Asked
judged t c = cond (good_table t c) (Ok tt) (Err Malformed)

unfoldable pub asked : List ℕ → List ℕ → Counts → Asked
asked first second c = cond (right_lengths first second) (judged (named first second c) c) (Err WrongLength)

unfoldable pub asked_number : Asked → ℕ
asked_number (Ok u) = 0
asked_number (Err WrongLength) = 1
asked_number (Err Malformed) = 2

-- "Asking for the literals of the result gives the used part of whichever lent table it ended in; with refusal 1 or 2, an empty
-- part of the first; a second call tells the number."
unfoldable pub literals_given : Asked → Formula → List ℕ
literals_given (Ok u) φ = all_literals φ.clauses
literals_given (Err e) φ = []

unfoldable pub literals_part : List ℕ → List ℕ → Counts → List ℕ
literals_part first second c = literals_given (asked first second c) (decode (named first second c) c)
