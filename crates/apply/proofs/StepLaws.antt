-- A step by its parts: permitted or not, with room or not; and what that leaves in the tables.
-- Assumes nothing.
use Prim.Native.Nat.{ℕ}
use mathlib.Core.Path.{◌≡◌, refl, sym, ap, ◌∙◌}
use mathlib.Core.Bool.{Bool, true, false, false≢true}
use mathlib.Core.List.{List}
use native.Mathlib.Omega.{arith}
use Rattle.meaning.specs.Formula.{Formula}
use Rattle.meaning.specs.WellFormed.{fits}
use Rattle.rules.specs.Entry.{Call, bad, call, read_entry}
use Rattle.rules.specs.Step.{Refusal, no_room, StepAnswer, refused, stepped, in_room, step_call, step_of}
use Rattle.table.specs.Table.{table_of, counts_of}
use Rattle.table.specs.Answer.{Built}
use Rattle.table.specs.declared.Counts.{Counts}
use Rattle.std.specs.Prelude.{Option, Some, None, Result, Ok, Err, ok_or}
use Rattle.permits.specs.declared.Call as permits
use Rattle.permits.specs.declared.Call.TheVariants.{Unit, Pure, Subsume, Strengthen, Equality, Resolve, Expand}
use Rattle.permits.specs.Calls.{called, call_read}
use Rattle.steps.specs.Decide.{call_permitted}
use Rattle.apply.specs.Applied.{Known, call_result, refusal_of, refused_as, stepping_as, source_after, target_after, Settled, Applied, Tried, Stands, formula_after, side_after, Moves}
use Rattle.apply.specs.declared.Refusal as told
use Rattle.apply.specs.declared.Refusal.TheVariants.{BadEntry, NotPermitted, NoRoom}

-- Permitted or not --------------------------------------------------------------------------------------------
permitted-step : (φ : Formula) (x : Call) → call_permitted φ x ≡ true → step_call φ x ≡ in_room (call_result φ x)
unfolding call_permitted step_call call_result
permitted-step φ bad p = let z : ◌≡◌ {A = ℕ} 0 1 = cc in absurd (omega arith)
permitted-step φ (call k a b) p = rw p

refused-step : (φ : Formula) (x : Call) → call_permitted φ x ≡ false → step_call φ x ≡ refused (refusal_of x)
unfolding call_permitted step_call refusal_of
refused-step φ bad p = refl
refused-step φ (call k a b) p = rw p

-- a call that names a step is refused as not permitted
refusal-called : (y : permits.Call) → refused_as (refusal_of (called y)) ≡ NotPermitted
unfolding called refusal_of refused_as
refusal-called (Unit a) = refl
refusal-called (Pure a) = refl
refusal-called (Subsume a b) = refl
refusal-called (Strengthen a b) = refl
refusal-called (Equality a b) = refl
refusal-called (Resolve a) = refl
refusal-called (Expand a) = refl

-- a caller who knows nothing
pub nothing_known : (φ : Formula) (e : ℕ) → Known φ e false
nothing_known φ e h = absurd (false≢true h)

-- a step that is done is permitted
pub stepped-permitted : (φ χ : Formula) (e : ℕ) → step_of φ e ≡ stepped χ → call_permitted φ (read_entry e) ≡ true
unfolding step_of
stepped-permitted φ χ e h = go (call_permitted φ (read_entry e)) refl
  where
    never : {y : Refusal} {A : Type 0} → refused y ≡ stepped χ → A
    never i = let z : ◌≡◌ {A = ℕ} 0 1 = cc in absurd (omega arith)

    go : (b : Bool) → call_permitted φ (read_entry e) ≡ b → call_permitted φ (read_entry e) ≡ true
    go true p = p
    go false p = never (sym (refused-step φ (read_entry e) p) ∙ h)

module _ (φ : Formula) (e : ℕ) (x : Call) (is : x ≡ read_entry e) (s : Bool) (t : List ℕ) where
  step_is : step_of φ e ≡ step_call φ x
  unfolding step_of
  step_is = ap (step_call φ) (sym is)

  -- what is built is the result, or there is no room
  pub tried-built : (p : call_permitted φ x ≡ true) (r : Option Counts) → Built (call_result φ x) s r t → Tried φ e s (ok_or r NoRoom) t
  unfolding in_room stepping_as refused_as
  tried-built p r b = go (fits (call_result φ x)) refl
    where
      i : step_of φ e ≡ in_room (call_result φ x)
      i = step_is ∙ permitted-step φ x p

      stepped-is : {χ ψ : Formula} → stepped χ ≡ stepped ψ → χ ≡ ψ
      stepped-is k = cc

      never : {ψ : Formula} {A : Type 0} → refused no_room ≡ stepped ψ → A
      never k = let z : ◌≡◌ {A = ℕ} 0 1 = cc in absurd (omega arith)

      go : (f : Bool) → fits (call_result φ x) ≡ f → Tried φ e s (ok_or r NoRoom) t
      go true h =
          let j : step_of φ e ≡ stepped (call_result φ x) = i ∙ rw h in
          let a : r ≡ Some (counts_of (call_result φ x) s) = b.answer ∙ rw h in
          record { answer = ap (λ o. ok_or o NoRoom) a ∙ sym (ap (λ z. stepping_as z s) j); table = λ ψ k. b.table h ∙ ap table_of (stepped-is (sym j ∙ k)) }
      go false h =
          let j : step_of φ e ≡ refused no_room = i ∙ rw h in
          let a : r ≡ None = b.answer ∙ rw h in
          record { answer = ap (λ o. ok_or o NoRoom) a ∙ sym (ap (λ z. stepping_as z s) j); table = λ ψ k. never (sym j ∙ k) }

  -- it is refused, whatever the table holds
  refused-tried : call_permitted φ x ≡ false → Tried φ e s (Err (refused_as (refusal_of x))) t
  unfolding stepping_as
  refused-tried p =
      let j : step_of φ e ≡ refused (refusal_of x) = step_is ∙ refused-step φ x p in
      record { answer = sym (ap (λ z. stepping_as z s) j); table = λ ψ i. never (sym j ∙ i) }
    where
      never : {y : Refusal} {ψ : Formula} {A : Type 0} → refused y ≡ stepped ψ → A
      never i = let z : ◌≡◌ {A = ℕ} 0 1 = cc in absurd (omega arith)

  pub tried-bad : x ≡ bad → Tried φ e s (Err BadEntry) t
  unfolding call_permitted refusal_of refused_as
  tried-bad b = let p : call_permitted φ x ≡ false = rw b in rw b at (refused-tried p)

  pub tried-not : (y : permits.Call) → called y ≡ x → call_permitted φ x ≡ false → Tried φ e s (Err NotPermitted) t
  tried-not y c p = rw (ap (λ z. refused_as (refusal_of z)) (sym c) ∙ refusal-called y) at (refused-tried p)

-- What a read entry is ------------------------------------------------------------------------------------------
pub read-some : (r : Option permits.Call) (y : permits.Call) (n : Call) → call_read r ≡ n → ok_or r BadEntry ≡ Ok y → called y ≡ n
unfolding call_read
read-some (Some x) y n h e = let q : Ok x ≡ Ok y = e in let i : x ≡ y = cc in rw (← i) h
read-some None y n h e = let q : Err BadEntry ≡ Ok y = e in let z : ◌≡◌ {A = ℕ} 0 1 = cc in absurd (omega arith)

pub read-none : (r : Option permits.Call) (y : told.Refusal) (n : Call) → call_read r ≡ n → ok_or r BadEntry ≡ Err y → (n ≡ bad) × (y ≡ BadEntry)
unfolding call_read
read-none (Some x) y n h e = let q : Ok x ≡ Err y = e in let z : ◌≡◌ {A = ℕ} 0 1 = cc in absurd (omega arith)
read-none None y n h e = let q : Err BadEntry ≡ Err y = e in (sym h, cc)

-- What is zeroed ----------------------------------------------------------------------------------------------
module _ (φ : Formula) (e : ℕ) (s : Bool) where
  pub applied : (source t a b : List ℕ) (r : Result Counts told.Refusal) → source ≡ table_of φ → Tried φ e s r t → Settled r source t a b → Applied φ e s r a b
  unfolding stepping_as source_after target_after
  applied source t a b r h k z = go (step_of φ e) refl r k.answer z
    where
      go : (x : StepAnswer) → step_of φ e ≡ x → (y : Result Counts told.Refusal) → y ≡ stepping_as (step_of φ e) s → Settled y source t a b → Applied φ e s y a b
      go (refused x) i y j z =
          let q : y ≡ Err (refused_as x) = j ∙ ap (λ v. stepping_as v s) i in
          let w : Settled (Err (refused_as x)) source t a b = rw q at z in
          record { answer = j; source = w.0 ∙ h ∙ sym (ap (source_after φ) i); target = w.1 ∙ sym (ap target_after i) }
      go (stepped ψ) i y j z =
          let q : y ≡ Ok (counts_of ψ s) = j ∙ ap (λ v. stepping_as v s) i in
          let w : Settled (Ok (counts_of ψ s)) source t a b = rw q at z in
          record { answer = j; source = w.0 ∙ sym (ap (source_after φ) i); target = w.1 ∙ k.table ψ i ∙ sym (ap target_after i) }

  -- Two tables --------------------------------------------------------------------------------------------------
  module _ (r : Result Counts told.Refusal) (a b : List ℕ) where
    stands : (x : StepAnswer) → a ≡ source_after φ x → b ≡ target_after x → Stands (formula_after φ x) (side_after false x) a b × Stands (formula_after φ x) (side_after true x) b a
    unfolding source_after target_after formula_after side_after
    stands (refused x) h k = (record { first = h; second = k }, record { first = k; second = h })
    stands (stepped ψ) h k = (record { first = h; second = k }, record { first = k; second = h })

    -- from the first table to the second, or from the second to the first
    pub moves-second : s ≡ true → Applied φ e s r a b → Moves φ e false r a b
    moves-second i k = record { answer = rw i at k.answer; stands = (stands (step_of φ e) k.source k.target).0 }

    pub moves-first : s ≡ false → Applied φ e s r a b → Moves φ e true r b a
    moves-first i k = record { answer = rw i at k.answer; stands = (stands (step_of φ e) k.source k.target).1 }
