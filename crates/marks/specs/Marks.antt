-- Marks: where the clauses of a table stand, by a number computed from their literals, so that a clause that is to be added is
-- compared only with those that have the same number. They fill one work table: a head for each slot, then a link for each clause.
-- Assumes nothing.
use Rattle.std.specs.Prelude.{◌≡◌, Bool, cond, ℕ, zero, suc, ◌+◌, ◌*◌, ◌%◌, ◌<◌, eqb, length, get_or}
use mathlib.Core.List.{List, [], foldl}
use Rattle.meaning.specs.Formula.{Formula}
use Rattle.meaning.specs.WellFormed.{fits}
use Rattle.table.specs.Table.{table_length, Holds}
use Rattle.table.specs.Answer.{Became}
use Rattle.table.specs.declared.Counts.{Counts}
use Rattle.std.specs.Prelude.{Option}

-- a prime; with a link for each of 2,047 clauses there is room for so many heads
abbrev pub slots : ℕ
slots = 9209

-- the slot of a clause, literal by literal. The factor is about slots divided by the golden ratio: clauses that are alike,
-- as all pairs of some variables are, fall into different slots.
unfoldable pub slot_on : ℕ → ℕ → ℕ
slot_on h l = (h * 5689 + l) % slots

unfoldable pub slot_of : List ℕ → ℕ
slot_of c = foldl slot_on 0 c

unfoldable pub slot_at : List (List ℕ) → ℕ → ℕ
slot_at cs i = slot_of (get_or cs i [])

-- one more than the number of the last of the first n clauses that has the slot s; 0 where none has it
unfoldable pub last_in : List (List ℕ) → ℕ → ℕ → ℕ
last_in cs s zero = 0
last_in cs s (suc n) = cond (eqb (slot_at cs n) s) (suc n) (last_in cs s n)

-- m has the marks of the clauses: the head of a slot tells the last clause of that slot, the link of a clause the last one
-- before it that has its slot
pub record Marks (cs : List (List ℕ)) (m : List ℕ) : Type 0 where
  pub long : length m ≡ table_length
  pub head : (s : ℕ) → s < slots → get_or m s 0 ≡ last_in cs s (length cs)
  pub link : (i : ℕ) → i < length cs → get_or m (slots + i) 0 ≡ last_in cs (slot_at cs i) i

-- the table t with the counts c holds some formula, and m has the marks of its clauses
pub record Marked (t : List ℕ) (c : Counts) (m : List ℕ) : Type 0 where
  pub formula : Formula
  pub holds : Holds formula t c
  pub marks : Marks formula.clauses m

-- φ was to become ψ, and the marks m go with it
pub record Went (φ ψ : Formula) (second : Bool) (r : Option Counts) (t m : List ℕ) : Type 0 where
  pub became : Became φ ψ second r t
  pub marks : Marks (cond (fits ψ) ψ φ).clauses m
