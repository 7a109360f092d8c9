-- The slot of a clause, and the last clause with a slot.
-- Assumes nothing.
use Prim.Native.Nat.{ℕ, zero, suc, ◌+◌, ◌*◌, ◌-◌, ◌%◌, ◌≤◌, ◌<◌}
use mathlib.Core.Path.{◌≡◌, refl, ap}
use mathlib.Core.Bool.{Bool, true, false, cond}
use mathlib.Core.List.{List, [], ◌∷◌, ◌++◌, foldl}
use native.Mathlib.Omega.{arith}
use lib.Dec.{eqb}
use lib.ListN.{length, get_or-append}
use lib.Seq.{get_or-append_seam}
use Rattle.meaning.proofs.Basics.{eqb-true}
use Rattle.marks.specs.Marks.{slots, slot_on, slot_of, slot_at, last_in}

from-small : (h : ℕ) (c : List ℕ) → h < slots → foldl slot_on h c < slots
unfolding slot_on
from-small h [] k = k
from-small h (l ∷ c) k = from-small ((h * 5689 + l) % slots) c (omega arith)

pub slot_small : (c : List ℕ) → slot_of c < slots
unfolding slot_of
slot_small c = from-small 0 c (omega arith)

pub slot-below : (s : ℕ) (c : List ℕ) → s ≡ slot_of c → s < slots
slot-below s c e = rw e (slot_small c)

-- The last clause with a slot ----------------------------------------------------------------------------------
module _ (cs : List (List ℕ)) (s : ℕ) where
  pub last_within : (n : ℕ) → last_in cs s n ≤ n
  unfolding last_in
  last_within zero = omega arith
  last_within (suc n) = go (eqb (slot_at cs n) s) (last_within n)
    where
      go : (b : Bool) → last_in cs s n ≤ n → cond b (suc n) (last_in cs s n) ≤ suc n
      go true h = omega arith
      go false h = omega arith

  -- it has the slot
  pub last-own : (n : ℕ) → 0 < last_in cs s n → slot_at cs (last_in cs s n - 1) ≡ s
  unfolding last_in
  last-own zero h = absurd (omega arith)
  last-own (suc n) h = go (eqb (slot_at cs n) s) refl (last-own n) h
    where
      go : (b : Bool) → eqb (slot_at cs n) s ≡ b → (0 < last_in cs s n → slot_at cs (last_in cs s n - 1) ≡ s)
          → 0 < cond b (suc n) (last_in cs s n) → slot_at cs (cond b (suc n) (last_in cs s n) - 1) ≡ s
      go true e ih k = let q : suc n - 1 ≡ n = omega arith in rw q (eqb-true (slot_at cs n) s e)
      go false e ih k = ih k

-- Clauses that come later make no difference ---------------------------------------------------------------------
module _ (cs : List (List ℕ)) (x : List ℕ) where
  pub slot-before : (i : ℕ) → i < length cs → slot_at (cs ++ (x ∷ [])) i ≡ slot_at cs i
  unfolding slot_at
  slot-before i h = ap slot_of (get_or-append cs (x ∷ []) [] i h)

  pub slot-there : slot_at (cs ++ (x ∷ [])) (length cs) ≡ slot_of x
  unfolding slot_at
  slot-there = ap slot_of (get_or-append_seam cs x [] [])

  pub last-before : (s n : ℕ) → n ≤ length cs → last_in (cs ++ (x ∷ [])) s n ≡ last_in cs s n
  unfolding last_in
  last-before s zero h = refl
  last-before s (suc n) h = rw (slot-before n (omega arith), last-before s n (omega arith))
