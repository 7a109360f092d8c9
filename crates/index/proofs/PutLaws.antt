-- One number more in the list of one literal: the lists of the others stay, since none reaches into the next.
-- Assumes nothing.
use Prim.Native.Nat.{ℕ, ◌+◌, ◌-◌, ◌≤◌, ◌<◌}
use mathlib.Core.Path.{◌≡◌, sym, ap, ◌∙◌}
use mathlib.Core.List.{List, [], ◌∷◌, ◌++◌}
use lib.ListN.{length, get_or, take, drop, set, length-append, length-drop, length-set}
use lib.Seq.{drop-set-lt, drop-set-add, take-set-le, take-suc-set}
use lib.Dec.{eqb, ltb}
use borrow.Author.Tests.{ltb-true, ltb-false}
use native.Mathlib.Omega.{arith}
use native.Mathlib.Numerals.{add-one}
use Rattle.index.specs.Index.{clauses_with, list_start}
use Rattle.index.specs.Build.{with_number, Filled}
use Rattle.meaning.proofs.Basics.{by_cases, eqb-true, eqb-false}
use Rattle.index.proofs.PlaceLaws.{place-at, place_set, number-set}
use Rattle.index.proofs.ReadLaws.{lists-next, lists-le}

-- A part of a list, after a store behind it, before it, and at its end --------------------------------------------
module _ (z : List ℕ) (a n p v : ℕ) where
  part-before : a + n ≤ p → take n (drop a (set z p v)) ≡ take n (drop a z)
  part-before h =
      let e : p ≡ a + (p - a) = omega arith in
      ap (λ (q : ℕ). take n (drop a (set z q v))) e
      ∙ ap (take n) (drop-set-add a z (p - a) v)
      ∙ take-set-le n (drop a z) (p - a) v (omega arith)

  part-behind : p < a → take n (drop a (set z p v)) ≡ take n (drop a z)
  part-behind h = ap (take n) (drop-set-lt a z p v h)

part-more : (z : List ℕ) (a n v : ℕ) → a + n < length z → take (n + 1) (drop a (set z (a + n) v)) ≡ take n (drop a z) ++ (v ∷ [])
part-more z a n v h =
    ap (take (n + 1)) (drop-set-add a z n v)
    ∙ ap (λ (m : ℕ). take m (set (drop a z) n v)) (add-one n)
    ∙ take-suc-set (drop a z) n v (omega (arith, length-drop a z))

-- The list of l has room: it is a front of its list in the index of cs, and not all of it ---------------------------
module _ (cs : List (List ℕ)) (list : ℕ → List ℕ) (index : List ℕ) (h : Filled cs list index)
    (within : (k : ℕ) → length (list k) ≤ length (clauses_with cs k))
    (room : list_start cs 2048 ≤ 8191) (l : ℕ) (low : l < 2048) (free : length (list l) < length (clauses_with cs l)) where
  at : ℕ
  at = list_start cs l + length (list l)

  place_is : get_or index l 0 ≡ list_start cs l + length (list l)
  place_is = rw h.table (place-at (λ k. list_start cs k + length (list k)) 2048 h.numbers l low)

  pub put-fits : get_or index l 0 < 8191
  put-fits = omega (arith, place_is, lists-next cs l, lists-le cs l 2048 low)

  -- g are the lists with the number i more
  module _ (i : ℕ) (g : ℕ → List ℕ) (more : g l ≡ list l ++ (i ∷ [])) (other : (k : ℕ) → (k ≡ l → ⊥) → list k ≡ g k) where
    z : List ℕ
    z = set h.numbers at i

    longer : length (g l) ≡ length (list l) + 1
    longer = ap length more ∙ length-append (list l) (i ∷ [])

    stays : (k : ℕ) → k < 2048 → (k ≡ l → ⊥)
        → take (length (list k)) (drop (list_start cs k) z) ≡ take (length (list k)) (drop (list_start cs k) h.numbers)
    unfolding z at
    stays k s d =
        by_cases (ltb k l)
        (λ t.
        let m = ltb-true k l t in
        part-before h.numbers (list_start cs k) (length (list k)) at i (omega (arith, within k, lists-next cs k, lists-le cs k l m)))
        (λ t.
        let m = ltb-false k l t in
        part-behind h.numbers (list_start cs k) (length (list k)) at i (omega (arith, lists-next cs l, lists-le cs l k (omega arith))))

    lists-after : (k : ℕ) → k < 2048 → take (length (g k)) (drop (list_start cs k) z) ≡ g k
    unfolding z at
    lists-after k s =
        by_cases (eqb k l)
        (λ t.
        rw (eqb-true k l t, longer)
        (part-more h.numbers (list_start cs l) (length (list l)) i (omega (arith, h.long, lists-next cs l, lists-le cs l 2048 low))
        ∙ ap (λ (r : List ℕ). r ++ (i ∷ [])) (h.lists l low)
        ∙ sym more))
        (λ t.
        let d = eqb-false k l t in
        rw (← other k d) (stays k s d ∙ h.lists k s))

    pub put-number : Filled cs g (with_number index l i)
    unfolding with_number z at
    put-number =
        record {
          numbers = z;
          table =
              rw (place_is, h.table)
              (ap (λ (r : List ℕ). set r l (at + 1)) (number-set (λ k. list_start cs k + length (list k)) 2048 h.numbers at i)
              ∙ place_set (λ k. list_start cs k + length (list k)) 2048 z (λ k. list_start cs k + length (g k)) l (at + 1) low (omega (arith, longer))
              (λ k d. ap (λ (r : List ℕ). list_start cs k + length r) (other k d)));
          long = length-set h.numbers at i ∙ h.long;
          lists = lists-after;
          zeros =
              drop-set-lt (list_start cs 2048) h.numbers at i (omega (arith, lists-next cs l, lists-le cs l 2048 low)) ∙ h.zeros;
        }
