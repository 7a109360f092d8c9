-- The code's answers for what the run does next, and for the best step of kind 6 or 7.
-- Assumes nothing.
use Rattle.std.specs.Prelude.{◌≡◌, ℕ, ◌+◌, Bool, Result, Ok, Err, true, false, List, [], ◌∷◌}
use Rattle.meaning.specs.Lists.{any_of}
use Rattle.meaning.specs.Formula.{Formula}
use Rattle.meaning.specs.Game.{empty_clause}
use Rattle.meaning.specs.WellFormed.{weight, well_formed}
use Rattle.rules.specs.Entry.{Kind, unit, pure, subsume, strengthen, equality, resolve, expand, entry}
use Rattle.rules.specs.Step.{result_of}
use Rattle.rules.specs.Choice.{Found, none, found, blocked_call, firsts, candidate, stuck, choose_of}
use Rattle.rules.specs.Run as rules
use Rattle.rules.specs.Run.{true_end, false_end, finished, out_of_room, over, step}
use Rattle.table.specs.Table.{Holds}
use Rattle.table.specs.Ranks.{ranks_of}
use Rattle.table.specs.declared.Counts.{Counts}
use Rattle.index.specs.declared.at_hand.AtHand.{AtHand}
use Rattle.index.specs.AtHand.{InHand}
use Rattle.search.specs.Searched.{SearchedTo}
use Rattle.growth.specs.Weights.{weighed_step, NoneSubsumed}
use Rattle.growth.specs.declared.Weighed.{Weighed}
use Rattle.growth.specs.declared.Weighed.TheVariants.{Over, Fitting, Wide}
use Rattle.choice.specs.declared.End.{End}
use Rattle.choice.specs.declared.End.TheVariants as end
use Rattle.choice.specs.declared.Next.{Next}
use Rattle.choice.specs.declared.Next.TheVariants as next
use Rattle.choice.specs.declared.Chosen.{Chosen}
use Rattle.choice.specs.declared.Lack.{Lack}
use Rattle.choice.specs.declared.Lack.TheVariants as lack
use Rattle.choice.specs.declared.Standing.{Standing}

unfoldable pub end_as : rules.End → End
end_as true_end = end.True
end_as false_end = end.False
end_as finished = end.Finished
end_as out_of_room = end.OutOfRoom

unfoldable pub next_as : rules.Next → Next
next_as (over e) = next.Over (end_as e)
next_as (step k a b) = next.Step (entry k a b)

-- Kinds 6 and 7 ------------------------------------------------------------------------------------------------
-- what lacks, by whether a step failed only for room
unfoldable pub lack_of : Bool → Lack
lack_of true = lack.Room
lack_of false = lack.Steps

unfoldable pub best_as : Found → Bool → Result ℕ Lack
best_as none room = Err (lack_of room)
best_as (found a b) room = Ok a

-- some step of the kind failed only for room
unfoldable pub any_of_kind : ℕ → Formula → Kind → Bool
any_of_kind E φ k = any_of (λ a. blocked_call E φ k a 0) (firsts φ k)

unfoldable pub best_of : ℕ → Formula → Kind → Result ℕ Lack
best_of E φ k = best_as (candidate E φ k) (any_of_kind E φ k)

-- "Kind 6 counts only where the weight falls, kind 7 only where it falls or rises by at most E": it stays below this
unfoldable pub limit_of : ℕ → Formula → Kind → ℕ
limit_of E φ unit = 0
limit_of E φ pure = 0
limit_of E φ subsume = 0
limit_of E φ strengthen = 0
limit_of E φ equality = 0
limit_of E φ resolve = weight φ
limit_of E φ expand = weight φ + E + 1

-- "take the least resulting weight, then the leftmost": from the left, a result is better if it is lighter
unfoldable pub roomless : Result ℕ Lack → Result ℕ Lack
roomless (Err l) = Err lack.Room
roomless (Ok a) = Ok a

unfoldable pub considered : Standing → ℕ → Weighed → Standing
considered s a Over = s
considered s a (Fitting w) = record { best = Ok a; below = w }
considered s a Wide = record { best = roomless s.best; below = s.below }

unfoldable pub consider_all : Formula → Kind → Standing → List ℕ → Standing
consider_all φ k s [] = s
consider_all φ k s (a ∷ l) = consider_all φ k (considered s a (weighed_step s.below φ k a)) l

abbrev pub nothing_yet : ℕ → Standing
nothing_yet below = record { best = Err lack.Steps; below = below }

-- All kinds ----------------------------------------------------------------------------------------------------
-- "in the order 1 to 7"
unfoldable pub kinds_after : Kind → List Kind
kinds_after unit = pure ∷ subsume ∷ strengthen ∷ equality ∷ resolve ∷ expand ∷ []
kinds_after pure = subsume ∷ strengthen ∷ equality ∷ resolve ∷ expand ∷ []
kinds_after subsume = strengthen ∷ equality ∷ resolve ∷ expand ∷ []
kinds_after strengthen = equality ∷ resolve ∷ expand ∷ []
kinds_after equality = resolve ∷ expand ∷ []
kinds_after resolve = expand ∷ []
kinds_after expand = []

-- what the run does next where no kind before k has a candidate
unfoldable pub next_from : ℕ → Formula → Kind → rules.Next
next_from E φ k = rules.next_of (choose_of E φ (k ∷ kinds_after k))

-- the first n clauses of what comes of it were searched
abbrev pub SearchedAfter : Formula → rules.Next → ℕ → Type 0
SearchedAfter φ (over e) n = Unit {0}
SearchedAfter φ (step k a b) n = SearchedTo (result_of φ k a b) n

-- the code's answer, where the run does x next
pub record ChosenAs (φ : Formula) (x : rules.Next) (r : Chosen) : Type 0 where
  pub next : r.next ≡ next_as x
  pub searched : SearchedAfter φ x r.searched

unfoldable pub stuck_as : Bool → Next
stuck_as room = next_as (rules.next_of (stuck room))

-- What is at hand, kind by kind --------------------------------------------------------------------------------
-- at the start: the first m clauses were searched
pub record HeldSearched (t : List ℕ) (c : Counts) (m : ℕ) : Type 0 where
  pub formula : Formula
  pub holds : Holds formula t c
  pub well : well_formed formula ≡ true
  pub searched : SearchedTo formula m

-- for kinds 1 and 2: no clause is empty
pub record Unsettled (t : List ℕ) (c : Counts) (m : ℕ) : Type 0 where
  pub formula : Formula
  pub holds : Holds formula t c
  pub well : well_formed formula ≡ true
  pub no-empty : empty_clause formula.clauses ≡ false
  pub searched : SearchedTo formula m

-- for kind 3 the same, with the index
pub record Busy (at : AtHand) (m : ℕ) : Type 0 where
  pub formula : Formula
  pub studied : InHand formula at
  pub no-empty : empty_clause formula.clauses ≡ false
  pub searched : SearchedTo formula m

-- for kind 4: no clause is a part of another
pub record Unsubsumed (at : AtHand) (m : ℕ) : Type 0 where
  pub formula : Formula
  pub studied : InHand formula at
  pub apart : NoneSubsumed formula
  pub searched : SearchedTo formula m

-- for kinds 5 and 6 the same, and all clauses were searched
abbrev pub AllSearched : Formula → Type 0
AllSearched φ = (m : ℕ) → SearchedTo φ m

pub record Apart (at : AtHand) : Type 0 where
  pub formula : Formula
  pub studied : InHand formula at
  pub apart : NoneSubsumed formula

-- for kind 7 the index is not needed
pub record Ranks (φ : Formula) (t : List ℕ) (c : Counts) (ranks : List ℕ) : Type 0 where
  pub holds : Holds φ t c
  pub well : well_formed φ ≡ true
  pub ranked : ranks ≡ ranks_of φ.prefix
  pub apart : NoneSubsumed φ

pub record Ranked (t : List ℕ) (c : Counts) (ranks : List ℕ) : Type 0 where
  pub formula : Formula
  pub ranks-of : Ranks formula t c ranks
