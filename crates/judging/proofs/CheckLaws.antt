-- The loops and tests of src/check.rt: variables that ascend, clauses by ranks, clauses that differ.
-- Assumes nothing.
use Prim.Native.Nat.{ℕ, suc, ◌+◌, ◌-◌, ◌/◌, ◌≤◌, ◌<◌}
use mathlib.Core.Path.{◌≡◌, refl, sym, ap, ◌∙◌, subst, fun_ext}
use mathlib.Core.Bool.{Bool, true, false, ◌&&◌, not}
use mathlib.Core.List.{List, [], ◌∷◌}
use lib.ListN.{length, get_or, take, drop, length-drop}
use lib.Seq.{drop-cons, take-suc, take_all, split_at}
use lib.Dec.{eqb, ltb, leb}
use borrow.Author.Tests.{lt-ltb, le-ltb, ltb-true, le-leb, lt-leb, leb-true}
use native.Mathlib.Omega.{arith}
use native.Mathlib.Numerals.{add-one}
use Rattle.meaning.specs.Lists.{all_of, any_of, same}
use Rattle.meaning.specs.Formula.{var, mentions}
use Rattle.meaning.specs.WellFormed.{ascends, bound, tidy_clause, good_prefix, distinct}
use Rattle.stamps.specs.Stamp.{stamped, with_stamp}
use Rattle.table.specs.Ranks.{ranks_of, rank_at, small, last_by, stays_by, good_entries}
use Rattle.judging.specs.Layout.{ranked}
use Rattle.meaning.proofs.Basics.{by_cases, iff, clash, false_of, and_l, and_r, and_i}
use Rattle.meaning.proofs.Lists.{all-le}
use Rattle.meaning.proofs.Prefix.{mentioned-all}
use Rattle.meaning.proofs.WellFormed.{distinct_more}
use Rattle.meaning.proofs.Again.{distinct-new}
use Rattle.stamps.proofs.StampLaws.{every-next}
use Rattle.table.proofs.RankLaws.{rank-at, rank-there}
use Rattle.table.proofs.ReduceLaws.{reduced-is}

-- Variables that ascend, neighbour by neighbour -----------------------------------------------------------------
above : (x y : ℕ) (c : List ℕ) → var x < var y → all_of (λ k. ltb (var y) (var k)) c ≡ true → all_of (λ k. ltb (var x) (var k)) c ≡ true
above x y c h a = all-le (λ k. ltb (var y) (var k)) (λ k. ltb (var x) (var k)) c (λ k e. let z = ltb-true (var y) (var k) e in lt-ltb (var x) (var k) (omega arith)) a

ascends-next : (x y : ℕ) (c : List ℕ) → var x < var y → ascends (x ∷ y ∷ c) ≡ ascends (y ∷ c)
unfolding ascends all_of
ascends-next x y c h =
    iff ((ltb (var x) (var y) && all_of (λ k. ltb (var x) (var k)) c) && (all_of (λ k. ltb (var y) (var k)) c && ascends c)) (all_of (λ k. ltb (var y) (var k)) c && ascends c)
    (λ a. and_r (ltb (var x) (var y) && all_of (λ k. ltb (var x) (var k)) c) (all_of (λ k. ltb (var y) (var k)) c && ascends c) a)
    (λ a. and_i (ltb (var x) (var y) && all_of (λ k. ltb (var x) (var k)) c) (all_of (λ k. ltb (var y) (var k)) c && ascends c) (and_i (ltb (var x) (var y)) (all_of (λ k. ltb (var x) (var k)) c) (lt-ltb (var x) (var y) h) (above x y c h (and_l (all_of (λ k. ltb (var y) (var k)) c) (ascends c) a))) a)

ascends-falls : (x y : ℕ) (c : List ℕ) → var y ≤ var x → ascends (x ∷ y ∷ c) ≡ false
unfolding ascends all_of
ascends-falls x y c h = rw (le-ltb (var x) (var y) h)

ascends-short : (s : List ℕ) → length s ≤ 1 → ascends s ≡ true
unfolding ascends all_of
ascends-short [] h = refl
ascends-short (x ∷ []) h = refl
ascends-short (x ∷ (y ∷ s)) h = absurd (omega arith)

module _ (s : List ℕ) (i : ℕ) (one : 1 ≤ i) (inv : ascends s ≡ ascends (drop (i - 1) s)) where
  two : i < length s → drop (i - 1) s ≡ get_or s (i - 1) 0 ∷ (get_or s i 0 ∷ drop (i + 1) s)
  two h =
      let e : suc (i - 1) ≡ i = omega arith in
      drop-cons s (i - 1) 0 (omega arith)
      ∙ ap (λ (n : ℕ). get_or s (i - 1) 0 ∷ drop n s) e
      ∙ ap (λ (r : List ℕ). get_or s (i - 1) 0 ∷ r) (drop-cons s i 0 h ∙ ap (λ (n : ℕ). get_or s i 0 ∷ drop n s) (sym (add-one i)))

  pub rises-falls : i < length s → get_or s i 0 / 2 ≤ get_or s (i - 1) 0 / 2 → false ≡ ascends s
  unfolding var
  rises-falls h k = sym (inv ∙ ap ascends (two h) ∙ ascends-falls (get_or s (i - 1) 0) (get_or s i 0) (drop (i + 1) s) k)

  pub rises-turn : i < length s → get_or s (i - 1) 0 / 2 < get_or s i 0 / 2 → ascends s ≡ ascends (drop (i + 1 - 1) s)
  unfolding var
  rises-turn h k =
      let e : i + 1 - 1 ≡ i = omega arith in
      inv
      ∙ ap ascends (two h)
      ∙ ascends-next (get_or s (i - 1) 0) (get_or s i 0) (drop (i + 1) s) k
      ∙ ap ascends (ap (λ (n : ℕ). get_or s i 0 ∷ drop n s) (add-one i) ∙ sym (drop-cons s i 0 h) ∙ ap (λ (n : ℕ). drop n s) (sym e))

  pub rises-end : length s ≤ i → true ≡ ascends s
  rises-end h = sym (inv ∙ ascends-short (drop (i - 1) s) (rw length-drop (omega arith)))

-- By ranks ----------------------------------------------------------------------------------------------------
pub ranked-large : (ranks : List ℕ) (l : ℕ) → 2047 < l → leb l 2047 ≡ ranked ranks l
unfolding ranked small var
ranked-large ranks l h = rw (lt-leb l 2047 h, lt-leb (l / 2) 1023 (omega arith))

pub ranked-small : (ranks : List ℕ) (l r : ℕ) → l ≤ 2047 → r ≡ rank_at ranks l → not (eqb r 0) ≡ ranked ranks l
unfolding ranked small var
ranked-small ranks l r h e = rw (le-leb (l / 2) 1023 (omega arith), ← e)

pub ranked-small-all : (ranks c : List ℕ) → all_of (ranked ranks) c ≡ true → all_of small c ≡ true
ranked-small-all ranks c b = all-le (ranked ranks) small c (λ l h. unfold ranked in and_l (small l) (not (eqb (rank_at ranks l) 0)) (unfold ranked in h)) b

module _ (p : List ℕ) (g : good_entries p ≡ true) where
  prefix-good : good_prefix p ≡ true
  unfolding good_entries
  prefix-good = and_l (good_prefix p) (all_of (λ q. leb (var q) 1023) p) g

  numbers : all_of (λ q. leb (var q) 1023) p ≡ true
  unfolding good_entries
  numbers = and_r (good_prefix p) (all_of (λ q. leb (var q) 1023) p) g

  ranked-is : (l : ℕ) → ranked (ranks_of p) l ≡ mentions p (var l)
  unfolding ranked small rank_at
  ranked-is l =
      by_cases (leb (var l) 1023)
      (λ h. rw (h, rank-at p (var l) (omega (arith, leb-true (var l) 1023 h)), rank-there 0 p (var l)) (not-not (mentions p (var l))))
      (λ h. rw h (sym (false_of (mentions p (var l)) (λ m. clash (mentioned-all (λ v. leb v 1023) p (var l) numbers m) h))))
    where
      not-not : (b : Bool) → not (not b) ≡ b
      not-not true = refl
      not-not false = refl

  -- every variable has a rank exactly if the clause is bound
  ranked-bound : (c : List ℕ) → all_of (ranked (ranks_of p)) c ≡ bound p c
  unfolding bound
  ranked-bound c = ap (λ (f : ℕ → Bool). all_of f c) (fun_ext ranked-is)

  -- The returns of is_tidy
  module _ (ranks c : List ℕ) (e : ranks ≡ ranks_of p) where
    pub tidy-fails : (ascends c && all_of (ranked ranks) c) ≡ false → false ≡ tidy_clause p c
    unfolding tidy_clause
    tidy-fails a =
        by_cases (ascends c)
        (λ x. let b : all_of (ranked ranks) c ≡ false = rw x at a in rw (x, ← ranked-bound c, ← e, b))
        (λ x. rw x)

    pub tidy-tells : (ascends c && all_of (ranked ranks) c) ≡ true → (r : Bool) → r ≡ all_of (stays_by ranks (last_by ranks 0 c)) c → r ≡ tidy_clause p c
    unfolding tidy_clause
    tidy-tells a r q =
        let b : all_of (ranked ranks) c ≡ true = and_r (ascends c) (all_of (ranked ranks) c) a in
        rw (and_l (ascends c) (all_of (ranked ranks) c) a, ← ranked-bound c, ← e, b)
        (q ∙ ap (λ (x : List ℕ). all_of (stays_by x (last_by x 0 c)) c) e ∙ reduced-is p prefix-good c (ranked-small-all ranks c b))

-- Clauses that differ, each from those before it ---------------------------------------------------------------
-- the first i clauses are distinct, and their stamps are in the filter
pub record Apart (cs : List (List ℕ)) (i : ℕ) (f : List ℕ) : Type 0 where
  pub differ : distinct (take i cs) ≡ true
  pub every : all_of (stamped f) (take i cs) ≡ true

pub apart_none : (cs : List (List ℕ)) (f : List ℕ) → Apart cs 0 f
unfolding distinct all_of
apart_none cs f = record { differ = refl; every = refl }

module _ (cs : List (List ℕ)) (i : ℕ) (h : i < length cs) (r : Bool) (q : r ≡ any_of (same (get_or cs i [])) (take i cs)) where
  -- the next clause equals one of them
  pub apart-fails : r ≡ true → false ≡ distinct cs
  apart-fails e =
      sym
      (false_of (distinct cs)
      (λ d. clash (sym q ∙ e) (distinct-new (take i cs) (get_or cs i []) (drop (suc i) cs) (subst (λ (x : List (List ℕ)). distinct x ≡ true) (split_at cs i [] h) d))))

  -- it equals none
  pub apart_next : r ≡ false → (f f' : List ℕ) → 0 < length f → f' ≡ with_stamp f (get_or cs i []) → Apart cs i f → Apart cs (i + 1) f'
  apart_next e f f' some k a =
      record {
        differ = rw (add-one i, take-suc cs i [] h) (distinct_more (take i cs) (get_or cs i []) a.differ (sym q ∙ e));
        every = rw k (every-next f (get_or cs i []) some cs i h refl a.every);
      }

pub apart-all : (cs : List (List ℕ)) (i : ℕ) (f : List ℕ) → Apart cs i f → length cs ≤ i → true ≡ distinct cs
apart-all cs i f a h = sym (rw (take_all i cs h) at a.differ)
