-- Where the lists begin: the loop that counts the literals, and the loop that sums the counts.
-- Assumes nothing.
use Prim.Native.Nat.{ℕ, ◌+◌, ◌≤◌, ◌<◌}
use mathlib.Core.Path.{◌≡◌, refl, sym, ap, ◌∙◌}
use mathlib.Core.Bool.{Bool, true, cond}
use mathlib.Core.List.{List, [], ◌∷◌, ◌++◌}
use lib.ListN.{length, get_or, take, set, replicate, replicate-append-replicate}
use lib.Seq.{take-suc, take_all, length-take-le}
use lib.Dec.{eqb, ltb}
use borrow.Author.Tests.{lt-ltb, le-ltb, ltb-true, ltb-false, eq-eqb, ne_eqb}
use native.Mathlib.Omega.{arith}
use native.Mathlib.Numerals.{add-one}
use Rattle.meaning.specs.Lists.{all_of, keep_if}
use Rattle.table.specs.Table.{table_of, empty_formula}
use Rattle.table.specs.Ranks.{small}
use Rattle.index.specs.Index.{placed}
use Rattle.index.specs.Build.{times, lower, counts_in, starts_in}
use Rattle.meaning.proofs.Basics.{by_cases}
use Rattle.meaning.proofs.Weight.{keep-length}
use Rattle.table.proofs.StayLaws.{small_at}
use Rattle.table.proofs.TableLaws.{table_empty}
use Rattle.index.proofs.CountLaws.{times-append, lower-zero, lower-next, lower-within}
use Rattle.index.proofs.PlaceLaws.{places_same, place-at, place_set, places-zero}

-- Counting -------------------------------------------------------------------------------------------------------
times_none : (l : ℕ) → times [] l ≡ 0
unfolding times keep_if
times_none l = refl

times-one : (l : ℕ) → times (l ∷ []) l ≡ 1
unfolding times keep_if
times-one l = rw (eq-eqb l l refl)

times-other : (x k : ℕ) → (k ≡ x → ⊥) → times (x ∷ []) k ≡ 0
unfolding times keep_if
times-other x k h = rw (ne_eqb k x h)

times-few : (c : List ℕ) (l : ℕ) → times c l ≤ length c
unfolding times
times-few c l = keep-length (λ k. eqb l k) c

-- no literal is counted yet
pub count-start : (index c : List ℕ) → index ≡ table_of empty_formula → index ≡ counts_in (take 0 c)
unfolding counts_in
count-start index c e =
    e
    ∙ sym (table_empty)
    ∙ sym (replicate-append-replicate 2048 9213 0)
    ∙ ap (λ (r : List ℕ). r ++ replicate 9213 0) (places-zero (times []) 2048 times_none)

module _ (c index : List ℕ) (i : ℕ) (inv : index ≡ counts_in (take i c)) (low : all_of small c ≡ true) (more : i < length c) where
  here : get_or c i 0 < 2048
  here = small_at c i low more

  count-is : get_or index (get_or c i 0) 0 ≡ times (take i c) (get_or c i 0)
  unfolding counts_in
  count-is = rw inv (place-at (times (take i c)) 2048 (replicate 9213 0) (get_or c i 0) here)

  -- the literal has its place, and its count fits
  pub count_fits : (get_or c i 0 < 2048) × (get_or index (get_or c i 0) 0 ≤ i)
  count_fits = (here, omega (arith, count-is, times-few (take i c) (get_or c i 0), length-take-le i c (omega arith)))

  pub count_turn : set index (get_or c i 0) (get_or index (get_or c i 0) 0 + 1) ≡ counts_in (take (i + 1) c)
  unfolding counts_in
  count_turn =
      let x = get_or c i 0 in
      let a = take i c in
      let e : take (i + 1) c ≡ a ++ (x ∷ []) = ap (λ (n : ℕ). take n c) (add-one i) ∙ take-suc c i 0 more in
      rw (count-is, inv, e)
      (place_set (times a) 2048 (replicate 9213 0) (times (a ++ (x ∷ []))) x (times a x + 1) here
      (times-append a (x ∷ []) x ∙ ap (λ (n : ℕ). times a x + n) (times-one x))
      (λ k d. sym (times-append a (x ∷ []) k ∙ omega (arith, times-other x k d))))

pub count-end : (c index : List ℕ) (i : ℕ) → index ≡ counts_in (take i c) → length c ≤ i → index ≡ counts_in c
count-end c index i inv h = inv ∙ ap counts_in (take_all i c h)

-- Summing: the places below l have their starts, the others their counts -----------------------------------------
unfoldable pub summed_at : List ℕ → ℕ → ℕ → ℕ
summed_at c l k = cond (ltb k l) (lower c k) (times c k)

ltb_next : (k l : ℕ) → (k ≡ l → ⊥) → ltb k l ≡ ltb k (l + 1)
ltb_next k l d =
    by_cases (ltb k l)
    (λ t. let h = ltb-true k l t in t ∙ sym (lt-ltb k (l + 1) (omega arith)))
    (λ t. let h = ltb-false k l t in t ∙ sym (le-ltb k (l + 1) (omega arith)))

pub record Summed (c index : List ℕ) (l sum : ℕ) : Type 0 where
  pub total : sum ≡ lower c l
  pub table : index ≡ placed (summed_at c l) (replicate 9213 0)

pub sum-start : (c index : List ℕ) → index ≡ counts_in c → Summed c index 0 0
unfolding counts_in summed_at
sum-start c index e =
    record {
      total = sym (lower-zero c);
      table = e ∙ ap (λ (r : List ℕ). r ++ replicate 9213 0) (places_same (times c) (summed_at c 0) 2048 (λ k h. rw (le-ltb k 0 (omega arith))));
    }

module _ (c index : List ℕ) (l sum : ℕ) (inv : Summed c index l sum) (more : l < 2048) where
  next-is : get_or index l 0 ≡ times c l
  unfolding summed_at
  next-is =
      ap (λ (t : List ℕ). get_or t l 0) inv.table
      ∙ place-at (summed_at c l) 2048 (replicate 9213 0) l more
      ∙ rw (le-ltb l l (omega arith))

  total-next : sum + get_or index l 0 ≡ lower c (l + 1)
  total-next = omega (arith, inv.total, next-is, lower-next c l, ap (lower c) (add-one l))

  -- the sum fits
  pub sum_fits : (sum ≤ length c) × (sum + get_or index l 0 ≤ length c)
  sum_fits = (omega (arith, inv.total, lower-within c l), omega (arith, total-next, lower-within c (l + 1)))

  pub sum-turn : Summed c (set index l sum) (l + 1) (sum + get_or index l 0)
  unfolding summed_at
  sum-turn =
      record {
        total = total-next;
        table =
            ap (λ (t : List ℕ). set t l sum) inv.table
            ∙ place_set (summed_at c l) 2048 (replicate 9213 0) (summed_at c (l + 1)) l sum more
            (rw (lt-ltb l (l + 1) (omega arith)) (sym inv.total))
            (λ k d. other k d);
      }
    where
      other : (k : ℕ) → (k ≡ l → ⊥) → cond (ltb k l) (lower c k) (times c k) ≡ cond (ltb k (l + 1)) (lower c k) (times c k)
      other k d = ap (λ (b : Bool). cond b (lower c k) (times c k)) (ltb_next k l d)

pub sum-end : (c index : List ℕ) (l sum : ℕ) → Summed c index l sum → 2048 ≤ l → index ≡ starts_in c
unfolding starts_in summed_at
sum-end c index l sum inv h =
    inv.table ∙ ap (λ (r : List ℕ). r ++ replicate 9213 0) (places_same (summed_at c l) (lower c) 2048 (λ k m. rw (lt-ltb k l (omega arith))))
