-- The layout of a table, by its places: what src/layout.rt tests. With the numbers of the prefix in range it is `layout_holds`
-- (proofs/GoodLaws.antt).
-- Assumes nothing.
use Rattle.std.specs.Prelude.{ℕ, ◌+◌, ◌-◌, Bool, ◌&&◌, not, List, [], ◌∷◌, eqb, leb, length, take, drop}
use Rattle.meaning.specs.Lists.{all_of}
use Rattle.meaning.specs.WellFormed.{max_variables, max_clauses, max_literals}
use Rattle.table.specs.Table.{ends_at, literals_at, table_length}
use Rattle.table.specs.Ranks.{small, rank_at}
use Rattle.table.specs.declared.Counts.{Counts}

-- all numbers are zero
unfoldable pub all_zero : List ℕ → Bool
all_zero l = all_of (λ x. eqb x 0) l

-- the ends never fall, from k on, and the last is m
unfoldable pub ends_up_to : ℕ → List ℕ → ℕ → Bool
ends_up_to k [] m = eqb k m
ends_up_to k (e ∷ es) m = leb k e && ends_up_to e es m

-- the numbers from place a to place e
abbrev pub part : List ℕ → ℕ → ℕ → List ℕ
part t a e = take (e - a) (drop a t)

-- the length, the limits, the unused places and the ends are right
unfoldable pub layout_ok : List ℕ → Counts → Bool
layout_ok t c =
    eqb (length t) table_length
    && (leb c.variables max_variables
    && (leb c.clauses max_clauses
    && (leb c.literals max_literals
    && (all_zero (part t c.variables ends_at)
    && (all_zero (part t (ends_at + c.clauses) literals_at)
    && (all_zero (part t (literals_at + c.literals) table_length)
    && ends_up_to 0 (part t ends_at (ends_at + c.clauses)) c.literals))))))

-- the literal's variable has a rank
unfoldable pub ranked : List ℕ → ℕ → Bool
ranked ranks l = small l && not (eqb (rank_at ranks l) 0)
