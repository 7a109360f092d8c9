-- The walk from a slot's head, link by link: as long as it lasts, the clauses before the mark that it stands at decide whether
-- an equal one is there.
-- Assumes nothing.
use Prim.Native.Nat.{ℕ, zero, suc, ◌+◌, ◌-◌, ◌≤◌, ◌<◌}
use mathlib.Core.Path.{◌≡◌, refl, sym, ap, ◌∙◌}
use mathlib.Core.Bool.{Bool, true, false, ◌||◌, cond}
use mathlib.Core.List.{List, [], ◌∷◌}
use native.Mathlib.Omega.{arith}
use lib.Dec.{eqb}
use lib.ListN.{length, get_or, take}
use lib.Seq.{take-suc, take-length}
use Rattle.meaning.specs.Lists.{any_of, same}
use Rattle.meaning.specs.Formula.{Formula}
use Rattle.table.specs.Table.{Holds}
use Rattle.table.specs.declared.Counts.{Counts}
use Rattle.meaning.proofs.Basics.{false_of, clash, eqb-eq, or-false, or-ir}
use Rattle.meaning.proofs.Lists.{any_append, same-path}
use Rattle.table.proofs.HoldLaws.{count-clauses, holds-bounds}
use Rattle.marks.specs.Marks.{slots, slot_of, slot_at, last_in, Marks}
use Rattle.marks.proofs.SlotLaws.{slot_small, last_within, last-own}

-- one clause more
any_next : (f : List ℕ → Bool) (cs : List (List ℕ)) (n : ℕ) → n < length cs → any_of f (take (suc n) cs) ≡ (any_of f (take n cs) || f (get_or cs n []))
unfolding any_of
any_next f cs n h =
    ap (any_of f) (take-suc cs n [] h)
    ∙ any_append f (take n cs) (get_or cs n [] ∷ [])
    ∙ ap (λ (b : Bool). any_of f (take n cs) || b) (or-false (f (get_or cs n [])))

-- a clause with another slot is another clause
other-slot : (cs : List (List ℕ)) (x : List ℕ) (n : ℕ) → eqb (slot_at cs n) (slot_of x) ≡ false → same x (get_or cs n []) ≡ false
unfolding slot_at
other-slot cs x n e = false_of _ (λ h. clash (eqb-eq (ap slot_of (sym (same-path x (get_or cs n []) h)))) e)

-- clauses after the last one with the slot make no difference
last-any : (cs : List (List ℕ)) (x : List ℕ) (n : ℕ) → n ≤ length cs → any_of (same x) (take n cs) ≡ any_of (same x) (take (last_in cs (slot_of x) n) cs)
unfolding last_in
last-any cs x zero h = refl
last-any cs x (suc n) h = go (eqb (slot_at cs n) (slot_of x)) refl (last-any cs x n (omega arith))
  where
    go : (b : Bool) → eqb (slot_at cs n) (slot_of x) ≡ b → any_of (same x) (take n cs) ≡ any_of (same x) (take (last_in cs (slot_of x) n) cs)
        → any_of (same x) (take (suc n) cs) ≡ any_of (same x) (take (cond b (suc n) (last_in cs (slot_of x) n)) cs)
    go true e ih = refl
    go false e ih = any_next (same x) cs n h ∙ rw (other-slot cs x n e) (or-false (any_of (same x) (take n cs)) ∙ ih)

-- the walk stands at the mark k
pub record Walk (cs : List (List ℕ)) (x : List ℕ) (k : ℕ) : Type 0 where
  pub within : k ≤ length cs
  pub own : 0 < k → slot_at cs (k - 1) ≡ slot_of x
  pub left : any_of (same x) cs ≡ any_of (same x) (take k cs)

-- at the last clause with the slot before the n-th
walk-last : (cs : List (List ℕ)) (x : List ℕ) (n k : ℕ) → n ≤ length cs → k ≡ last_in cs (slot_of x) n
    → any_of (same x) cs ≡ any_of (same x) (take n cs) → Walk cs x k
walk-last cs x n k h e q =
    rw e (record { within = omega (arith, last_within cs (slot_of x) n); own = last-own cs (slot_of x) n; left = q ∙ last-any cs x n h })

module _ {cs : List (List ℕ)} {m : List ℕ} (h : Marks cs m) (x : List ℕ) where
  pub walk_start : (s : ℕ) → s ≡ slot_of x → Walk cs x (get_or m s 0)
  walk_start s e = rw e (walk-last cs x (length cs) (get_or m (slot_of x) 0) (omega arith) (h.head (slot_of x) (slot_small x)) (rw (take-length cs)))

  module _ (k : ℕ) (w : Walk cs x k) (some : 0 < k) where
    next : suc (k - 1) ≡ k
    next = omega arith

    there : k - 1 < length cs
    there = omega (arith, w.within)

    linked : get_or m (slots + (k - 1)) 0 ≡ last_in cs (slot_at cs (k - 1)) (k - 1)
    linked = h.link (k - 1) there

    -- it goes to the left
    pub walk-less : get_or m (slots + (k - 1)) 0 < k
    walk-less = omega (arith, linked, last_within cs (slot_at cs (k - 1)) (k - 1))

    split : any_of (same x) cs ≡ (any_of (same x) (take (k - 1) cs) || same x (get_or cs (k - 1) []))
    split = w.left ∙ ap (λ (n : ℕ). any_of (same x) (take n cs)) (sym next) ∙ any_next (same x) cs (k - 1) there

    -- the clause there is d, and b says whether it is equal
    module _ (d : List ℕ) (b : Bool) (at : d ≡ get_or cs (k - 1) []) (told : b ≡ same x d) where
      compared : same x (get_or cs (k - 1) []) ≡ b
      compared = ap (same x) (sym at) ∙ sym told

      pub walk-found : b ≡ true → true ≡ any_of (same x) cs
      walk-found e = sym (split ∙ or-ir (any_of (same x) (take (k - 1) cs)) (same x (get_or cs (k - 1) [])) (compared ∙ e))

      pub walk_turn : b ≡ false → Walk cs x (get_or m (slots + (k - 1)) 0)
      walk_turn e =
          walk-last cs x (k - 1) (get_or m (slots + (k - 1)) 0) (omega (arith, w.within))
          (linked ∙ rw (w.own some))
          (split ∙ rw (compared ∙ e) (or-false (any_of (same x) (take (k - 1) cs))))

pub walk_end : {cs : List (List ℕ)} {x : List ℕ} {k : ℕ} → Walk cs x k → k ≤ 0 → false ≡ any_of (same x) cs
unfolding any_of
walk_end {cs} {x} {k} w h = let e : k ≡ 0 = omega arith in sym (w.left ∙ rw e)

-- over a table the mark is that of one of its clauses, or 0
pub walk-few : {φ : Formula} {t : List ℕ} {c : Counts} → Holds φ t c → (x : List ℕ) (k : ℕ) → Walk φ.clauses x k → (k ≤ c.clauses) × (k ≤ 2047)
walk-few h x k w = (omega (arith, w.within, count-clauses h), omega (arith, w.within, count-clauses h, (holds-bounds h).clauses))
