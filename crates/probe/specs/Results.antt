-- The bytes of a result: numbers with the least significant byte first.
-- Assumes nothing.
use Rattle.std.specs.Prelude.{ℕ, suc, ◌+◌, ◌≤◌, ◌≡◌, cond, ltb, List, [], ◌∷◌, ◌++◌, length, take}
use Rattle.std.specs.Int.{w16, w64, to_le_bytes, from_bool}
use Rattle.table.specs.declared.Counts.{Counts}

-- the output has the bytes behind what it had, where there is room for them
abbrev pub Puts : List ℕ → List ℕ → List ℕ → Type 0
Puts old bytes new = length old + length bytes ≤ 160000 → new ≡ old ++ bytes

-- a length: four bytes
unfoldable pub of_length : ℕ → List ℕ
of_length n = take 4 (to_le_bytes w64 n)

-- a count: eight bytes
unfoldable pub of_count : ℕ → List ℕ
of_count n = to_le_bytes w64 n

-- counts, one after the other
unfoldable pub of_counts : List ℕ → List ℕ
of_counts [] = []
of_counts (n ∷ ns) = of_count n ++ of_counts ns

-- a table's numbers: two bytes each
unfoldable pub of_numbers : List ℕ → List ℕ
of_numbers [] = []
of_numbers (x ∷ xs) = to_le_bytes w16 x ++ of_numbers xs

-- how many numbers of a table reach to the last that is not zero
unfoldable pub reached : List ℕ → ℕ
reached [] = 0
reached (x ∷ xs) = cond (ltb 0 (x + reached xs)) (suc (reached xs)) 0

-- a table: its length, how many numbers follow, and these
unfoldable pub of_table : List ℕ → List ℕ
of_table t = (of_length (length t) ++ of_length (reached t)) ++ of_numbers (take (reached t) t)

-- the answer, the record and n
unfoldable pub of_front : ℕ → Counts → ℕ → List ℕ
of_front answer c n = ((((answer ∷ from_bool c.second ∷ []) ++ of_count c.variables) ++ of_count c.clauses) ++ of_count c.literals) ++ of_count n

-- what follows n: the two tables, and the bytes with their length
unfoldable pub of_lent : List ℕ → List ℕ → List ℕ → List ℕ
of_lent first second bytes = ((of_table first ++ of_table second) ++ of_length (length bytes)) ++ bytes

-- the same with no bytes, and a part
unfoldable pub of_part : List ℕ → List ℕ → List ℕ → List ℕ
of_part first second part = of_lent first second [] ++ of_table part

-- what follows n, with an empty part
unfoldable pub of_rest : List ℕ → List ℕ → List ℕ → List ℕ
of_rest first second bytes = of_lent first second bytes ++ of_table []
