-- The marks with one clause more: its link is the old head of its slot, and it is the new head.
-- Assumes nothing.
use Prim.Native.Nat.{ℕ, suc, ◌+◌, ◌<◌}
use mathlib.Core.Path.{◌≡◌, sym, ◌∙◌}
use mathlib.Core.Bool.{false, cond}
use mathlib.Core.List.{List, [], ◌∷◌, ◌++◌}
use native.Mathlib.Omega.{arith}
use native.Mathlib.Numerals.{add-one}
use lib.Dec.{eqb}
use lib.ListN.{length, get_or, set, replicate, length-append, length-set, length-replicate, get_or-replicate}
use lib.Seq.{get_or-set_same, get_or-set_other}
use Rattle.meaning.proofs.Basics.{by_cases, eqb-true, eqb-false, eqb-self}
use Rattle.marks.specs.Marks.{slots, slot_of, slot_at, last_in, Marks}
use Rattle.marks.proofs.SlotLaws.{slot_small, slot-before, slot-there, last-before}

-- all zero: the marks of no clause
pub marks-none : Marks [] (replicate 11261 0)
unfolding last_in
marks-none =
    record {
      long = length-replicate {A = ℕ} 11261 0;
      head = λ s h. get_or-replicate {A = ℕ} 11261 s 0 0 (omega arith);
      link = λ i h. absurd (omega arith);
    }

module _ {cs : List (List ℕ)} {m : List ℕ} (h : Marks cs m) (few : length cs < 2047) (x : List ℕ) where
  abbrev more : List (List ℕ)
  more = cs ++ (x ∷ [])

  abbrev linked : List ℕ
  linked = set m (slots + length cs) (get_or m (slot_of x) 0)

  abbrev marked : List ℕ
  marked = set linked (slot_of x) (length cs + 1)

  one-more : length more ≡ suc (length cs)
  one-more = length-append cs (x ∷ []) ∙ add-one (length cs)

  -- the last clause of all, with the new one
  last_more : (s : ℕ) → last_in more s (length more) ≡ cond (eqb (slot_of x) s) (suc (length cs)) (last_in cs s (length cs))
  unfolding last_in
  last_more s = rw (one-more, slot-there cs x, last-before cs x s (length cs) (omega arith))

  head-own : get_or marked (slot_of x) 0 ≡ last_in more (slot_of x) (length more)
  head-own =
      get_or-set_same linked (slot_of x) (length cs + 1) 0
      (rw (length-set m (slots + length cs) (get_or m (slot_of x) 0)) (omega (arith, slot_small x, h.long)))
      ∙ add-one (length cs)
      ∙ sym (last_more (slot_of x) ∙ rw (eqb-self (slot_of x)))

  head-other : (s : ℕ) → s < slots → eqb (slot_of x) s ≡ false → get_or marked s 0 ≡ last_in more s (length more)
  head-other s k e =
      get_or-set_other linked (slot_of x) s (length cs + 1) 0 (λ q. eqb-false (slot_of x) s e (sym q))
      ∙ get_or-set_other m (slots + length cs) s (get_or m (slot_of x) 0) 0 (λ q. omega arith)
      ∙ h.head s k
      ∙ sym (last_more s ∙ rw e)

  link-other : (i : ℕ) → get_or marked (slots + i) 0 ≡ get_or linked (slots + i) 0
  link-other i = get_or-set_other linked (slot_of x) (slots + i) (length cs + 1) 0 (λ q. omega (arith, slot_small x))

  link-old : (i : ℕ) → i < length cs → get_or marked (slots + i) 0 ≡ last_in more (slot_at more i) i
  link-old i k =
      link-other i
      ∙ get_or-set_other m (slots + length cs) (slots + i) (get_or m (slot_of x) 0) 0 (λ q. omega arith)
      ∙ h.link i k
      ∙ sym (rw (slot-before cs x i k) (last-before cs x (slot_at cs i) i (omega arith)))

  link-new : get_or marked (slots + length cs) 0 ≡ last_in more (slot_at more (length cs)) (length cs)
  link-new =
      link-other (length cs)
      ∙ get_or-set_same m (slots + length cs) (get_or m (slot_of x) 0) 0 (omega (arith, h.long))
      ∙ h.head (slot_of x) (slot_small x)
      ∙ sym (rw (slot-there cs x) (last-before cs x (slot_of x) (length cs) (omega arith)))

  marks-more : Marks more marked
  marks-more =
      record {
        long = length-set linked (slot_of x) (length cs + 1) ∙ length-set m (slots + length cs) (get_or m (slot_of x) 0) ∙ h.long;
        head = λ s k. by_cases (eqb (slot_of x) s) (λ e. rw (← eqb-true (slot_of x) s e) head-own) (head-other s k);
        link = λ i k. by_cases (eqb i (length cs)) (λ e. rw (eqb-true i (length cs) e) link-new)
            (λ e. link-old i (omega (arith, one-more, eqb-false i (length cs) e)));
      }

-- the same as the code has it
pub marks-pushed : (cs : List (List ℕ)) (x m : List ℕ) (s n : ℕ) → Marks cs m → n < 2047 → n ≡ length cs → s ≡ slot_of x
    → Marks (cs ++ (x ∷ [])) (set (set m (slots + n) (get_or m s 0)) s (n + 1))
marks-pushed cs x m s n h few e q = rw (e, q) (marks-more h (omega arith) x)
