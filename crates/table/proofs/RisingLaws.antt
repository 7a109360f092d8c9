-- Lists that rise: what insertion keeps, and where a number stands.
-- Assumes nothing.
use Prim.Native.Nat.{ℕ, zero, suc, ◌+◌, ◌≤◌, ◌<◌}
use mathlib.Core.Path.{◌≡◌, refl, sym, ap, ◌∙◌}
use mathlib.Core.Bool.{Bool, true, false, ◌&&◌, cond, false≢true}
use mathlib.Core.List.{List, [], ◌∷◌}
use native.Mathlib.Omega.{arith}
use native.Mathlib.Nat.{not-suc-le-zero, le_of_suc-le-suc}
use lib.Dec.{eqb, ltb}
use lib.ListN.{length, get_or, take}
use borrow.Author.Tests.{lt-ltb, le-ltb, ltb-true, ltb-false}
use Rattle.meaning.specs.Lists.{all_of, any_of, has}
use Rattle.meaning.specs.Tidy.{insert_new, ascending}
use Rattle.table.specs.Insert.{count_below}
use Rattle.table.specs.Pending.{Pends}
use Rattle.std.specs.Prelude.{Option, Some}
use Rattle.meaning.proofs.Basics.{by_cases, iff, false_of, and_l, and_r, and_i, or_l, or_r, or-il, or-ir, or_elim, eqb-self, eqb-true, eqb-eq, eqb-false}
use Rattle.meaning.proofs.Lists.{all-le, all-has}
use Rattle.std.proofs.lemmas.Grind.{get_or_default_zero}
use Rattle.std.specs.List.Sorted.{IsPartitionedBy, IsPartitionPoint}
use Rattle.table.specs.Rising.{rising}

-- Insertion ----------------------------------------------------------------------------------------------------
insert-above : (j l : ℕ) (c : List ℕ) → j < l → all_of (λ k. ltb j k) c ≡ true → all_of (λ k. ltb j k) (insert_new l c) ≡ true
unfolding all_of insert_new
insert-above j l [] h a = rw (lt-ltb j l h)
insert-above j l (k ∷ c) h a = go (ltb l k) (eqb l k) (insert-above j l c h (search and_r))
  where
    go : (s t : Bool) → all_of (λ k. ltb j k) (insert_new l c) ≡ true
        → all_of (λ k. ltb j k) (cond s (l ∷ k ∷ c) (cond t (k ∷ c) (k ∷ insert_new l c))) ≡ true
    go true t ih = rw (lt-ltb j l h) a
    go false true ih = a
    go false false ih = and_i (ltb j k) (all_of (λ k. ltb j k) (insert_new l c)) (search and_l) ih

insert-rising : (l : ℕ) (c : List ℕ) → rising c ≡ true → rising (insert_new l c) ≡ true
unfolding rising insert_new all_of
insert-rising l [] h = refl
insert-rising l (k ∷ c) h = go (ltb l k) (eqb l k) refl refl (insert-rising l c (search and_r))
  where
    above : all_of (λ i. ltb k i) c ≡ true
    above = and_l (all_of (λ i. ltb k i) c) (rising c) h

    go : (s t : Bool) → ltb l k ≡ s → eqb l k ≡ t → rising (insert_new l c) ≡ true
        → rising (cond s (l ∷ k ∷ c) (cond t (k ∷ c) (k ∷ insert_new l c))) ≡ true
    go true t e d ih =
        and_i (ltb l k && all_of (λ i. ltb l i) c) (all_of (λ i. ltb k i) c && rising c)
        (and_i (ltb l k) (all_of (λ i. ltb l i) c) e
        (all-le (λ i. ltb k i) (λ i. ltb l i) c (λ i x. let y = ltb-true k i x in let z = ltb-true l k e in lt-ltb l i (omega arith)) above)) h
    go false true e d ih = h
    go false false e d ih =
        and_i (all_of (λ i. ltb k i) (insert_new l c)) (rising (insert_new l c))
        (insert-above k l c (let x = ltb-false l k e in let y = eqb-false l k d in omega arith) above) ih

ascending-rising : (c : List ℕ) → rising (ascending c) ≡ true
unfolding rising ascending
ascending-rising [] = refl
ascending-rising (l ∷ c) = insert-rising l (ascending c) (ascending-rising c)

-- an open clause without both phases rises
pub pends-rising : {raw s : List ℕ} {p : Option ℕ} → Pends raw s p → (n : ℕ) → p ≡ Some n → rising (take n s) ≡ true
pends-rising {raw} h n one = rw (h.sorted n one) (ascending-rising raw)

-- Places -------------------------------------------------------------------------------------------------------
has-at : (s : List ℕ) (i : ℕ) → i < length s → has (get_or s i 0) s ≡ true
unfolding has any_of
has-at [] i h = absurd (not-suc-le-zero h)
has-at (y ∷ s) zero h = or-il (eqb y y) (any_of (λ k. eqb y k) s) (eqb-self y)
has-at (y ∷ s) (suc i) h = or-ir (eqb (get_or s i 0) y) (any_of (λ k. eqb (get_or s i 0) k) s) (has-at s i (le_of_suc-le-suc h))

rising-first : (y : ℕ) (s : List ℕ) → rising (y ∷ s) ≡ true → (k : ℕ) → has k s ≡ true → y < k
unfolding rising
rising-first y s r k h = ltb-true y k (all-has (λ k. ltb y k) s k (search and_l) h)

rising-rest : (y : ℕ) (s : List ℕ) → rising (y ∷ s) ≡ true → rising s ≡ true
unfolding rising
rising-rest y s r = and_r (all_of (λ k. ltb y k) s) (rising s) r

rising-order : (s : List ℕ) → rising s ≡ true → (i j : ℕ) → i < j → j < length s → get_or s i 0 < get_or s j 0
rising-order [] r i j h k = absurd (not-suc-le-zero k)
rising-order (y ∷ s) r i zero h k = absurd (not-suc-le-zero h)
rising-order (y ∷ s) r zero (suc j) h k = rising-first y s r (get_or s j 0) (has-at s j (le_of_suc-le-suc k))
rising-order (y ∷ s) r (suc i) (suc j) h k = rising-order s (rising-rest y s r) i j (le_of_suc-le-suc h) (le_of_suc-le-suc k)

-- a number that is there stands at its place
placed : (s : List ℕ) (x : ℕ) → rising s ≡ true → has x s ≡ true → (count_below s x < length s) × (get_or s (count_below s x) 0 ≡ x)
unfolding count_below has any_of
placed [] x r h = absurd (false≢true h)
placed (y ∷ s) x r h =
    or_elim (eqb x y) (any_of (λ k. eqb x k) s) h
    (λ e. let q = eqb-true x y e in rw (le-ltb y x (omega arith)) (omega arith, sym q))
    (λ e. let w = placed s x (rising-rest y s r) e in rw (lt-ltb y x (rising-first y s r x e)) (omega (arith, w.0), w.1))

-- the next number has the place of one that is not there
pub count_next : (s : List ℕ) (x : ℕ) → has x s ≡ false → count_below s (x + 1) ≡ count_below s x
unfolding count_below has any_of
count_next [] x h = refl
count_next (y ∷ s) x h =
    let n = eqb-false x y (or_l (eqb x y) (any_of (λ k. eqb x k) s) h) in
    by_cases (ltb y x)
    (λ e. let k = ltb-true y x e in rw (e, lt-ltb y (x + 1) (omega arith)) (ap suc (count_next s x (or_r (eqb x y) (any_of (λ k. eqb x k) s) h))))
    (λ e. let k = ltb-false y x e in rw (e, le-ltb y (x + 1) (omega arith)))

module _ (s : List ℕ) (p x : ℕ) (r : rising s ≡ true) (e : p ≡ count_below s x) where
  pub stands_here : p < length s → eqb (get_or s p 0) x ≡ has x s
  stands_here h =
      iff (eqb (get_or s p 0) x) (has x s)
      (λ q. rw (eqb-true (get_or s p 0) x q) at (has-at s p h))
      (λ q. eqb-eq (ap (λ (i : ℕ). get_or s i 0) e ∙ (placed s x r q).1))

  pub stands-past : length s ≤ p → false ≡ has x s
  stands-past h = sym (false_of (has x s) (λ q. omega (arith, (placed s x r q).0)))

-- Halving ------------------------------------------------------------------------------------------------------
count-is : (s : List ℕ) (x n : ℕ) → n ≤ length s → ((i : ℕ) → i < n → get_or s i 0 < x) → (n < length s → x ≤ get_or s n 0) → n ≡ count_below s x
unfolding count_below
count-is [] x n h b a = omega arith
count-is (y ∷ s) x zero h b a = rw (le-ltb y x (a (omega arith)))
count-is (y ∷ s) x (suc n) h b a =
    rw (lt-ltb y x (b 0 (omega arith)))
    (ap suc (count-is s x n (le_of_suc-le-suc h) (λ i k. b (suc i) (omega arith)) (λ k. a (omega arith))))

-- no number below x stands behind one that is not
pub rising-parted : (s : List ℕ) (x : ℕ) → rising s ≡ true → IsPartitionedBy (λ y. ltb y x) s
rising-parted s x r i j d h k e =
    let below : get_or s j 0 < x = omega (arith, get_or_default_zero s j d k, ltb-true (get_or s j d) x e) in
    let order : get_or s i 0 ≤ get_or s j 0 =
    by_cases (ltb i j) (λ t. let l : i < j = ltb-true i j t in omega (arith, rising-order s r i j l k))
    (λ t. let l = ltb-false i j t in let q : i ≡ j = omega arith in omega (arith, ap (λ (n : ℕ). get_or s n 0) q)) in
    lt-ltb (get_or s i d) x (omega (arith, get_or_default_zero s i d (omega arith)))

pub count-parted : (s : List ℕ) (x n : ℕ) → n ≤ length s → IsPartitionPoint (λ y. ltb y x ≡ true) (λ y. ltb y x ≡ false) s n → n ≡ count_below s x
count-parted s x n h w =
    count-is s x n h (λ i l. ltb-true (get_or s i 0) x (w.0 i 0 (omega arith) l)) (λ l. ltb-false (get_or s n 0) x (w.1 n 0 (omega arith) l))
