-- One step, by its entry (document 01, "Steps" and "Numbers given back").
-- Assumes nothing.
use Rattle.std.specs.Prelude.{ℕ, Bool, cond}
use Rattle.meaning.specs.Formula.{Formula}
use Rattle.meaning.specs.Tidy.{tidied}
use Rattle.meaning.specs.WellFormed.{fits}
use Rattle.rules.specs.Simplify.{unit_permitted, unit_raw, pure_permitted, pure_raw, subsume_permitted, subsume_raw, strengthen_permitted, strengthen_raw, equality_permitted, equality_raw}
use Rattle.rules.specs.Eliminate.{resolve_permitted, resolve_raw, expand_permitted, expand_raw}
use Rattle.rules.specs.Entry.{Kind, unit, pure, subsume, strengthen, equality, resolve, expand, Call, bad, call, read_entry}

unfoldable pub permitted : Formula → Kind → ℕ → ℕ → Bool
permitted φ unit a b = unit_permitted φ a
permitted φ pure a b = pure_permitted φ a
permitted φ subsume a b = subsume_permitted φ a b
permitted φ strengthen a b = strengthen_permitted φ a b
permitted φ equality a b = equality_permitted φ a b
permitted φ resolve a b = resolve_permitted φ a
permitted φ expand a b = expand_permitted φ a

unfoldable pub raw_of : Formula → Kind → ℕ → ℕ → Formula
raw_of φ unit a b = unit_raw φ a
raw_of φ pure a b = pure_raw φ a
raw_of φ subsume a b = subsume_raw φ b
raw_of φ strengthen a b = strengthen_raw φ a b
raw_of φ equality a b = equality_raw φ a
raw_of φ resolve a b = resolve_raw φ a
raw_of φ expand a b = expand_raw φ a

-- the whole result, whether it fits or not
unfoldable pub result_of : Formula → Kind → ℕ → ℕ → Formula
result_of φ k a b = tidied (raw_of φ k a b)

-- the refusals of a step, and their numbers
pub data Refusal : Type 0 where
  entry_bad not_permitted no_room : Refusal

unfoldable pub refusal_number : Refusal → ℕ
refusal_number entry_bad = 12
refusal_number not_permitted = 10
refusal_number no_room = 11

pub data StepAnswer : Type 0 where
  refused : Refusal → StepAnswer
  stepped : Formula → StepAnswer

-- "NO ROOM exactly if the result passes a limit; a copy numbered over 1,023 passes that of variables."
unfoldable pub in_room : Formula → StepAnswer
in_room ψ = cond (fits ψ) (stepped ψ) (refused no_room)

-- "Order: .. 12, 10, 11"
unfoldable pub step_call : Formula → Call → StepAnswer
step_call φ bad = refused entry_bad
step_call φ (call k a b) = cond (permitted φ k a b) (in_room (result_of φ k a b)) (refused not_permitted)

-- "A step is called by its entry."
unfoldable pub step_of : Formula → ℕ → StepAnswer
step_of φ e = step_call φ (read_entry e)
