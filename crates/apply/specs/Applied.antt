-- What a step gives back, and what it leaves in the two tables (document 01, "Steps" and "Numbers given back").
-- Assumes nothing.
use Rattle.std.specs.Prelude.{◌≡◌, ℕ, Bool, true, not, cond, List, length, Result, Ok, Err}
use Rattle.meaning.specs.Formula.{Formula}
use Rattle.meaning.specs.WellFormed.{well_formed}
use Rattle.rules.specs.Entry.{Call, bad, call, read_entry}
use Rattle.rules.specs.Step.{result_of, Refusal, entry_bad, not_permitted, no_room, StepAnswer, refused, stepped, step_of}
use Rattle.table.specs.Table.{table_length, table_of, counts_of, empty_formula, Holds}
use Rattle.steps.specs.Decide.{call_permitted}
use Rattle.table.specs.Lent.{named}
use Rattle.table.specs.declared.Counts.{Counts}
use Rattle.apply.specs.declared.Refusal as told
use Rattle.apply.specs.declared.Refusal.TheVariants.{BadEntry, NotPermitted, NoRoom}

-- A call by its parts ------------------------------------------------------------------------------------------
-- what it makes of the formula
unfoldable pub call_result : Formula → Call → Formula
call_result φ bad = φ
call_result φ (call k a b) = result_of φ k a b

-- why it is refused, if it is not permitted
unfoldable pub refusal_of : Call → Refusal
refusal_of bad = entry_bad
refusal_of (call k a b) = not_permitted

-- the caller knows that the entry e calls a permitted step, where it says so
abbrev pub Known : Formula → ℕ → Bool → Type 0
Known φ e known = known ≡ true → call_permitted φ (read_entry e) ≡ true

-- What is given back ------------------------------------------------------------------------------------------
unfoldable pub refused_as : Refusal → told.Refusal
refused_as entry_bad = BadEntry
refused_as not_permitted = NotPermitted
refused_as no_room = NoRoom

-- the record of the result names the table on side s
unfoldable pub stepping_as : StepAnswer → Bool → Result Counts told.Refusal
stepping_as (refused x) s = Err (refused_as x)
stepping_as (stepped ψ) s = Ok (counts_of ψ s)

-- What is left ------------------------------------------------------------------------------------------------
-- "A step's result stands in the other table; the one it came from is zeroed"; refused, "formula unchanged", the spare zero
unfoldable pub source_after : Formula → StepAnswer → List ℕ
source_after φ (refused x) = table_of φ
source_after φ (stepped ψ) = table_of empty_formula

unfoldable pub target_after : StepAnswer → List ℕ
target_after (refused x) = table_of empty_formula
target_after (stepped ψ) = table_of ψ

-- so from tables that hold anything, by the answer
abbrev pub Settled : Result Counts told.Refusal → List ℕ → List ℕ → List ℕ → List ℕ → Type 0
Settled (Ok d) source target source' target' = (source' ≡ table_of empty_formula) × (target' ≡ target)
Settled (Err x) source target source' target' = (source' ≡ source) × (target' ≡ table_of empty_formula)

-- the step by entry e, from φ to a table on side s
pub record Applied (φ : Formula) (e : ℕ) (s : Bool) (r : Result Counts told.Refusal) (a b : List ℕ) : Type 0 where
  pub answer : r ≡ stepping_as (step_of φ e) s
  pub source : a ≡ source_after φ (step_of φ e)
  pub target : b ≡ target_after (step_of φ e)

-- the same before either table is zeroed
pub record Tried (φ : Formula) (e : ℕ) (s : Bool) (r : Result Counts told.Refusal) (target : List ℕ) : Type 0 where
  pub answer : r ≡ stepping_as (step_of φ e) s
  pub table : (ψ : Formula) → step_of φ e ≡ stepped ψ → target ≡ table_of ψ

-- a table with a well formed formula
pub record Kept (t : List ℕ) (c : Counts) : Type 0 where
  pub formula : Formula
  pub holds : Holds formula t c
  pub well : well_formed formula ≡ true

-- Two lent tables ---------------------------------------------------------------------------------------------
-- φ is in the one that the record names; the other may hold anything
pub record Lends (φ : Formula) (first second : List ℕ) (c : Counts) : Type 0 where
  pub holds : Holds φ (named first second c) c
  pub well : well_formed φ ≡ true
  pub first-length : length first ≡ table_length
  pub second-length : length second ≡ table_length

pub record Lent (first second : List ℕ) (c : Counts) : Type 0 where
  pub formula : Formula
  pub lends : Lends formula first second c

-- ψ is in the table on side s, and the other is zero
pub record Stands (ψ : Formula) (s : Bool) (a b : List ℕ) : Type 0 where
  pub first : a ≡ cond s (table_of empty_formula) (table_of ψ)
  pub second : b ≡ cond s (table_of ψ) (table_of empty_formula)

-- the formula after a step, and its side
unfoldable pub formula_after : Formula → StepAnswer → Formula
formula_after φ (refused x) = φ
formula_after φ (stepped ψ) = ψ

unfoldable pub side_after : Bool → StepAnswer → Bool
side_after s (refused x) = s
side_after s (stepped ψ) = not s

pub record Moves (φ : Formula) (e : ℕ) (s : Bool) (r : Result Counts told.Refusal) (a b : List ℕ) : Type 0 where
  pub answer : r ≡ stepping_as (step_of φ e) (not s)
  pub stands : Stands (formula_after φ (step_of φ e)) (side_after s (step_of φ e)) a b
