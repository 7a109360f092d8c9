-- What a step by its entry answers, each answer exactly when. Assumes nothing.
use mathlib.Core.Path.{◌≡◌, refl}
use Prim.Native.Nat.{ℕ}
use mathlib.Core.Bool.{Bool, true, false, cond, false≢true}
use Rattle.meaning.specs.Formula.{Formula}
use Rattle.meaning.specs.WellFormed.{fits}
use Rattle.rules.specs.Entry.{Call, bad, call, read_entry}
use Rattle.rules.specs.Step.{permitted, result_of, entry_bad, not_permitted, no_room, StepAnswer, refused, stepped, in_room, step_call, step_of}
use Rattle.rules.specs.Choice.{blocked_call, on_call, blocked}
use Rattle.rules.proofs.Permitted.{wanted-permitted, blocked-wanted, blocked-full}

-- what an answer says of the call
abbrev pub Says : Formula → Call → StepAnswer → Type 0
Says φ bad (refused entry_bad) = Unit {0}
Says φ bad (refused not_permitted) = ⊥
Says φ bad (refused no_room) = ⊥
Says φ bad (stepped ψ) = ⊥
Says φ (call k a b) (refused entry_bad) = ⊥
Says φ (call k a b) (refused not_permitted) = permitted φ k a b ≡ false
Says φ (call k a b) (refused no_room) = (permitted φ k a b ≡ true) × (fits (result_of φ k a b) ≡ false)
Says φ (call k a b) (stepped ψ) = (permitted φ k a b ≡ true) × (fits (result_of φ k a b) ≡ true) × (result_of φ k a b ≡ ψ)

says : (φ : Formula) (c : Call) → Says φ c (step_call φ c)
unfolding step_call in_room
says φ bad = tt
says φ (call k a b) = go (permitted φ k a b) (fits (result_of φ k a b)) refl refl
  where
    go : (s t : Bool) → permitted φ k a b ≡ s → fits (result_of φ k a b) ≡ t
        → Says φ (call k a b) (cond s (cond t (stepped (result_of φ k a b)) (refused no_room)) (refused not_permitted))
    go false t h i = h
    go true false h i = (h, i)
    go true true h i = (h, i, refl)

-- the answer says what it says: the four cases exclude one another
pub step-says : (φ : Formula) (e : ℕ) → Says φ (read_entry e) (step_of φ e)
unfolding step_of
step-says φ e = says φ (read_entry e)

-- a step that fails only for room answers NO ROOM
pub blocked-says : (E : ℕ) (φ : Formula) (e : ℕ) → blocked E φ e ≡ true → step_of φ e ≡ refused no_room
unfolding blocked step_of step_call in_room on_call
blocked-says E φ e h = go (read_entry e) h
  where
    go : (c : Call) → on_call (blocked_call E φ) c ≡ true → step_call φ c ≡ refused no_room
    go bad i = absurd (false≢true i)
    go (call k a b) i = rw (wanted-permitted E φ k a b (blocked-wanted E φ k a b i), blocked-full E φ k a b i)
