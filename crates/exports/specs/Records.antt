-- The record as it crosses to C: five 64-bit numbers. The first four are the counts and which table holds the formula; the fifth is
-- given back: an offset, or how many bytes, steps or entries.
-- Assumes nothing.
use Rattle.std.specs.Prelude.{ℕ, Bool, cond, List, [], ◌∷◌, eqb, leb, get_or, set, take, drop, Ok, Err}
use Rattle.table.specs.Lent.{right_lengths}
use Rattle.table.specs.declared.Counts.{Counts}
use Rattle.judging.specs.Check.{Asked}

-- the fourth number is 0 for the first table and 1 for the second
unfoldable pub side_known : List ℕ → Bool
side_known l = leb (get_or l 3 0) 1

unfoldable pub counts_in : List ℕ → Counts
counts_in l = record { variables = get_or l 0 0; clauses = get_or l 1 0; literals = get_or l 2 0; second = eqb (get_or l 3 0) 1 }

unfoldable pub record_of : Counts → ℕ → List ℕ
record_of c n = c.variables ∷ (c.clauses ∷ (c.literals ∷ (cond c.second 1 0 ∷ (n ∷ []))))

-- Any other fourth number is MALFORMED, in the order of the refusals: "Order: 1, 2". Nothing is written but the fifth number, 0.
unfoldable pub side_number : List ℕ → List ℕ → ℕ
side_number first second = cond (right_lengths first second) 2 1

unfoldable pub as_lent : List ℕ → List ℕ
as_lent l = set l 4 0

-- A part of one of the two tables, as it crosses to C: which table, where in it the part begins, and how many numbers it has.
unfoldable pub no_part : List ℕ
no_part = 0 ∷ (0 ∷ (0 ∷ []))

-- "the used part of whichever lent table it ended in; with refusal 1 or 2, an empty part of the first"
unfoldable pub part_of : Asked → Counts → List ℕ
part_of (Ok u) c = cond c.second 1 0 ∷ (3070 ∷ (c.literals ∷ []))
part_of (Err u) c = no_part

-- what stands there
unfoldable pub part_in : List ℕ → List ℕ → List ℕ → List ℕ
part_in first second p = take (get_or p 2 0) (drop (get_or p 1 0) (cond (eqb (get_or p 0 0) 1) second first))
