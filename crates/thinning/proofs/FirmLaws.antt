-- Universals of a clause that go whatever clause it is joined with: tidied, the joined clause is the same without them.
-- Assumes nothing.
use Prim.Native.Nat.{ℕ, ◌≤◌, ◌<◌, max}
use mathlib.Core.Path.{◌≡◌, refl, sym, ap, ap₂, ◌∙◌}
use mathlib.Core.Bool.{Bool, true, false, ◌&&◌, ◌||◌, not, cond, and_comm}
use mathlib.Core.List.{List, [], ◌∷◌, ◌++◌, append_assoc}
use native.Mathlib.Omega.{arith}
use lib.Dec.{eqb, ltb, leb}
use lib.ListN.{length, get_or}
use borrow.Author.Tests.{le-ltb, ltb-false, leb-true}
use Rattle.meaning.specs.Lists.{any_of, all_of, keep_if, has, without}
use Rattle.meaning.specs.Formula.{odd, opposite}
use Rattle.meaning.specs.Tidy.{insert_new, ascending, both_phases, dropped, kept, tidy_sorted, tidy}
use Rattle.meaning.specs.WellFormed.{ascends, good_prefix}
use Rattle.table.specs.Pending.{in_range}
use Rattle.table.specs.Ranks.{ranks_of, rank_at, place_at, later_by, last_by, stays_by, reduced_by}
use Rattle.thinning.specs.Thin.{near, firm, met_with, free_of, StoodFor}
use Rattle.meaning.proofs.Basics.{by_cases, iff, clash, false_of, and_r, and_i, or_l, or_r, or-il, or-ir, or_elim, not-true, not-false, eqb-true}
use Rattle.meaning.proofs.Lists.{any_append, all_append, any-has, all-has, any-witness, has-keep, any-keep-le, all-keep-le, keep-twice}
use Rattle.meaning.proofs.Literals.{opp-opp}
use Rattle.meaning.proofs.Ascends.{ascends-single}
use Rattle.table.proofs.LoopLaws.{any_at}
use Rattle.table.proofs.SortLaws.{ascending-snoc, both-ascending, small-ascending}
use Rattle.table.proofs.ReduceLaws.{reduce-is}

-- The rightmost place ---------------------------------------------------------------------------------------------------
module _ (ranks : List ℕ) where
  last-max : (e : ℕ) (c : List ℕ) → last_by ranks e c ≡ max e (last_by ranks 0 c)
  unfolding last_by later_by
  last-max e [] = omega arith
  last-max e (l ∷ c) =
      let one = last-max (max e (place_at ranks l)) c in
      let two = last-max (max 0 (place_at ranks l)) c in
      by_cases (odd (rank_at ranks l)) (λ o. rw o (last-max e c)) (λ o. rw o (omega arith))

  last_cons : (l : ℕ) (c : List ℕ) → last_by ranks 0 (l ∷ c) ≡ max (later_by ranks 0 l) (last_by ranks 0 c)
  unfolding last_by
  last_cons l c = last-max (later_by ranks 0 l) c

  last-append : (c d : List ℕ) → last_by ranks 0 (c ++ d) ≡ max (last_by ranks 0 c) (last_by ranks 0 d)
  last-append [] d = unfold last_by in omega arith
  last-append (l ∷ c) d = omega (arith, last_cons l (c ++ d), last_cons l c, last-append c d)

  last-insert : (l : ℕ) (c : List ℕ) → last_by ranks 0 (insert_new l c) ≡ max (later_by ranks 0 l) (last_by ranks 0 c)
  unfolding insert_new
  last-insert l [] = last_cons l []
  last-insert l (k ∷ c) =
      by_cases (ltb l k) (λ h. rw h (last_cons l (k ∷ c)))
      (λ h. by_cases (eqb l k)
      (λ e. rw (h, e, eqb-true l k e) (omega (arith, last_cons k c)))
      (λ e. rw (h, e) (omega (arith, last_cons k (insert_new l c), last_cons k c, last-insert l c))))

  last-ascending : (c : List ℕ) → last_by ranks 0 (ascending c) ≡ last_by ranks 0 c
  unfolding ascending
  last-ascending [] = refl
  last-ascending (l ∷ c) = omega (arith, last-insert l (ascending c), last_cons l c, last-ascending c)

  -- fewer literals
  last-keep : (t : ℕ → Bool) (c : List ℕ) → last_by ranks 0 (keep_if t c) ≤ last_by ranks 0 c
  unfolding keep_if
  last-keep t [] = omega arith
  last-keep t (l ∷ c) =
      by_cases (t l) (λ h. rw h (omega (arith, last_cons l (keep_if t c), last_cons l c, last-keep t c))) (λ h. rw h (omega (arith, last_cons l c, last-keep t c)))

  -- no existential less
  last-firm : (t : ℕ → Bool) → ((k : ℕ) → t k ≡ false → odd (rank_at ranks k) ≡ true) → (c : List ℕ) → last_by ranks 0 (keep_if t c) ≡ last_by ranks 0 c
  unfolding keep_if
  last-firm t u [] = refl
  last-firm t u (l ∷ c) =
      by_cases (t l)
      (λ h. rw h (omega (arith, last_cons l (keep_if t c), last_cons l c, last-firm t u c)))
      (λ h. let z : later_by ranks 0 l ≡ 0 = unfold later_by in rw (u l h) in rw h (omega (arith, last_cons l c, last-firm t u c)))

  -- What goes -------------------------------------------------------------------------------------------------------------
  goes-odd : (e k : ℕ) → stays_by ranks e k ≡ false → odd (rank_at ranks k) ≡ true
  unfolding stays_by
  goes-odd e k h = not-false (odd (rank_at ranks k)) (or_l (not (odd (rank_at ranks k))) (ltb (place_at ranks k) e) h)

  goes-less : (a b k : ℕ) → a ≤ b → stays_by ranks b k ≡ false → stays_by ranks a k ≡ false
  unfolding stays_by
  goes-less a b k n h =
      let m = ltb-false (place_at ranks k) b (or_r (not (odd (rank_at ranks k))) (ltb (place_at ranks k) b) h) in
      rw (goes-odd b k h, le-ltb (place_at ranks k) a (omega arith))

-- Selections in sorted clauses --------------------------------------------------------------------------------------------
keep-insert : (s : ℕ → Bool) (l : ℕ) (c : List ℕ) → s l ≡ false → keep_if s (insert_new l c) ≡ keep_if s c
unfolding keep_if insert_new
keep-insert s l [] h = rw h
keep-insert s l (k ∷ c) h =
    by_cases (ltb l k) (λ a. rw (a, h))
    (λ a. by_cases (eqb l k) (λ b. rw (a, b)) (λ b. rw (a, b) (ap (λ (r : List ℕ). cond (s k) (k ∷ r) r) (keep-insert s l c h))))

-- what goes in any case may go before
module _ (s t : ℕ → Bool) (less : (k : ℕ) → t k ≡ false → s k ≡ false) where
  keep-sorted : (d c : List ℕ) → keep_if s (ascending (d ++ c)) ≡ keep_if s (ascending (keep_if t d ++ c))
  unfolding ascending keep_if
  keep-sorted [] c = refl
  keep-sorted (k ∷ d) c =
      by_cases (t k)
      (λ h. rw h (ap (keep_if s) (last d) ∙ keep-sorted d (c ++ (k ∷ [])) ∙ sym (ap (keep_if s) (last (keep_if t d)))))
      (λ h. rw h (keep-insert s k (ascending (d ++ c)) (less k h) ∙ keep-sorted d c))
    where
      last : (d : List ℕ) → insert_new k (ascending (d ++ c)) ≡ ascending (d ++ (c ++ (k ∷ [])))
      last d = sym (ascending-snoc (d ++ c) k) ∙ ap ascending (append_assoc d c (k ∷ []))

-- Both phases -------------------------------------------------------------------------------------------------------------
has-append : (k : ℕ) (c d : List ℕ) → has k (c ++ d) ≡ (has k c || has k d)
unfolding has
has-append k c d = any_append (λ l. eqb k l) c d

has_kept : (t : ℕ → Bool) (k : ℕ) (c : List ℕ) → has k (keep_if t c) ≡ true → has k c ≡ true
unfolding has
has_kept t k c h = any-keep-le (λ l. eqb k l) t c h

both-less : (c d : List ℕ) → ((k : ℕ) → has k c ≡ true → has (opposite k) c ≡ true → has k d ≡ true) → both_phases c ≡ true → both_phases d ≡ true
unfolding both_phases
both-less c d f h =
    let w = any-witness (λ k. has (opposite k) c) c h in
    any-has (λ k. has (opposite k) d) d w.0 (f w.0 w.1 w.2)
    (f (opposite w.0) w.2 (ap (λ (k : ℕ). has k c) (opp-opp w.0) ∙ w.1))

single-keep : (t : ℕ → Bool) (c : List ℕ) → both_phases c ≡ false → both_phases (keep_if t c) ≡ false
single-keep t c h = false_of (both_phases (keep_if t c)) (λ b. clash (both-less (keep_if t c) c (λ k i o. has_kept t k c i) b) h)

-- What is left -----------------------------------------------------------------------------------------------------------
by-ranks : (p : List ℕ) → good_prefix p ≡ true → (b : List ℕ) → all_of in_range b ≡ true → tidy p b ≡ cond (both_phases b) dropped (kept (keep_if (stays_by (ranks_of p) (last_by (ranks_of p) 0 b)) (ascending b)))
unfolding tidy tidy_sorted
by-ranks p g b r =
    ap₂ (λ (z : Bool) (e : List ℕ). cond z dropped (kept e)) (both-ascending b)
    (sym (reduce-is p g (ascending b) (small-ascending b r))
    ∙ unfold reduced_by in ap (λ (e : ℕ). keep_if (stays_by (ranks_of p) e) (ascending b)) (last-ascending (ranks_of p) b))

-- A clause d without some universals, joined with c ------------------------------------------------------------------------
module _ (d c : List ℕ) (t : ℕ → Bool) (single : both_phases d ≡ false) (free : (k : ℕ) → has k d ≡ true → t k ≡ false → has (opposite k) c ≡ false) where
  both-firm : both_phases (d ++ c) ≡ both_phases (keep_if t d ++ c)
  both-firm =
      iff (both_phases (d ++ c)) (both_phases (keep_if t d ++ c))
      (both-less (d ++ c) (keep_if t d ++ c) (λ k i o. has-append k (keep_if t d) c ∙
      or_elim (has k d) (has k c) (sym (has-append k d c) ∙ i)
      (λ a. or-il (has k (keep_if t d)) (has k c) (has-keep t d k a (met k a (or_elim (has (opposite k) d) (has (opposite k) c) (sym (has-append (opposite k) d c) ∙ o) (λ b. clash (alone k a b) single) (λ b. b)))))
      (λ a. or-ir (has k (keep_if t d)) (has k c) a)))
      (both-less (keep_if t d ++ c) (d ++ c) (λ k i o. has-append k d c ∙
      or_elim (has k (keep_if t d)) (has k c) (sym (has-append k (keep_if t d) c) ∙ i)
      (λ a. or-il (has k d) (has k c) (has_kept t k d a)) (λ a. or-ir (has k d) (has k c) a)))
    where
      alone : (k : ℕ) → has k d ≡ true → has (opposite k) d ≡ true → both_phases d ≡ true
      alone k a b = unfold both_phases in any-has (λ l. has (opposite l) d) d k a b

      met : (k : ℕ) → has k d ≡ true → has (opposite k) c ≡ true → t k ≡ true
      met k a b = by_cases (t k) (λ h. h) (λ h. clash b (free k a h))

  module _ (p : List ℕ) (g : good_prefix p ≡ true) (x : all_of in_range d ≡ true) (y : all_of in_range c ≡ true)
      (loose : (k : ℕ) → t k ≡ false → stays_by (ranks_of p) (last_by (ranks_of p) 0 (d ++ c)) k ≡ false) where
    tidy-firm : tidy p (d ++ c) ≡ tidy p (keep_if t d ++ c)
    tidy-firm =
        by-ranks p g (d ++ c) (all_append in_range d c ∙ and_i (all_of in_range d) (all_of in_range c) x y)
        ∙ ap₂ (λ (z : Bool) (e : List ℕ). cond z dropped (kept e)) both-firm
        (keep-sorted (stays_by (ranks_of p) (last_by (ranks_of p) 0 (d ++ c))) t loose d c
        ∙ ap (λ (e : ℕ). keep_if (stays_by (ranks_of p) e) (ascending (keep_if t d ++ c))) level)
        ∙ sym (by-ranks p g (keep_if t d ++ c) (all_append in_range (keep_if t d) c ∙ and_i (all_of in_range (keep_if t d)) (all_of in_range c) (all-keep-le in_range t d x) y))
      where
        level : last_by (ranks_of p) 0 (d ++ c) ≡ last_by (ranks_of p) 0 (keep_if t d ++ c)
        level =
            omega (
              arith,
              last-append (ranks_of p) d c,
              last-append (ranks_of p) (keep_if t d) c,
              last-firm (ranks_of p) t (λ k h. goes-odd (ranks_of p) (last_by (ranks_of p) 0 (d ++ c)) k (loose k h)) d,
            )

-- A clause x joined with a clause y that has no existential right of place e ------------------------------------------------
keep-turned : (s t : ℕ → Bool) (c : List ℕ) → keep_if s (keep_if t c) ≡ keep_if t (keep_if s c)
keep-turned s t c =
    keep-twice s t (λ k. s k && t k) (λ k. refl) c ∙ sym (keep-twice t s (λ k. s k && t k) (λ k. and_comm (t k) (s k)) c)

module _ (p : List ℕ) (g : good_prefix p ≡ true) (e k o : ℕ) (y : List ℕ) (ry : all_of in_range y ≡ true) (close : last_by (ranks_of p) 0 y ≤ e) where
  firm-tidy : (x : List ℕ) → all_of in_range x ≡ true → ascends x ≡ true
      → ((l : ℕ) → has l x ≡ true → stays_by (ranks_of p) (last_by (ranks_of p) e x) l ≡ false → has (opposite l) y ≡ false)
      → tidy p (without k x ++ without o y) ≡ tidy p (without k (firm (ranks_of p) e x) ++ without o y)
  unfolding without firm
  firm-tidy x rx up free =
      tidy-firm (keep_if (other k) x) (keep_if (other o) y) firmly (single-keep (other k) x (ascends-single x up))
      (λ l i h. false_of (has (opposite l) (keep_if (other o) y)) (λ j. clash (has_kept (other o) (opposite l) y j) (free l (has_kept (other k) l x i) h)))
      p g (all-keep-le in_range (other k) x rx) (all-keep-le in_range (other o) y ry)
      (λ l h. goes-less (ranks_of p) (last_by (ranks_of p) 0 (keep_if (other k) x ++ keep_if (other o) y)) (last_by (ranks_of p) e x) l
      (omega (arith, last-append (ranks_of p) (keep_if (other k) x) (keep_if (other o) y), last-max (ranks_of p) e x, last-keep (ranks_of p) (other k) x, last-keep (ranks_of p) (other o) y)) h)
      ∙ ap (λ (d : List ℕ). tidy p (d ++ keep_if (other o) y)) (keep-turned firmly (other k) x)
    where
      other : ℕ → ℕ → Bool
      other n l = not (eqb n l)

      firmly : ℕ → Bool
      firmly = stays_by (ranks_of p) (last_by (ranks_of p) e x)

-- The clauses of a formula --------------------------------------------------------------------------------------------------
near_last : (ranks : List ℕ) (e : ℕ) (c : List ℕ) → near ranks e c ≡ true → last_by ranks 0 c ≤ e
unfolding near
near_last ranks e c h = leb-true (last_by ranks 0 c) e (and_r (leb (length c) 16) (leb (last_by ranks 0 c) e) h)

module _ (ranks : List ℕ) (e o : ℕ) (cs : List (List ℕ)) (n : ℕ) (h : n < length cs) (there : has o (get_or cs n []) ≡ true) (close : near ranks e (get_or cs n []) ≡ true) where
  meets : ℕ → List ℕ → Bool
  meets l c = (has o c && near ranks e c) && has l c

  free-at : (x : List ℕ) → free_of ranks e o cs x ≡ true → (l : ℕ) → has l x ≡ true → stays_by ranks (last_by ranks e x) l ≡ false → has (opposite l) (get_or cs n []) ≡ false
  unfolding free_of met_with meets
  free-at x f l i s =
      false_of (has (opposite l) (get_or cs n []))
      (λ j. clash (any_at (meets (opposite l)) [] cs n h (rw (there, close, j)))
      (not-true (any_of (meets (opposite l)) cs)
      (or_elim (stays_by ranks (last_by ranks e x) l) (not (any_of (meets (opposite l)) cs))
      (all-has (λ l. stays_by ranks (last_by ranks e x) l || not (any_of (meets (opposite l)) cs)) x l f i) (λ z. clash z s) (λ z. z))))

-- where one clause stands in for another, the two come to the same with every near clause that has o
module _ (p : List ℕ) (g : good_prefix p ≡ true) (cs : List (List ℕ)) (rise : (i : ℕ) → ascends (get_or cs i []) ≡ true) (range : (i : ℕ) → all_of in_range (get_or cs i []) ≡ true)
    (e k o : ℕ) (w : List ℕ) (j : ℕ) (s : StoodFor (ranks_of p) e o cs w j)
    (n : ℕ) (h : n < length cs) (there : has o (get_or cs n []) ≡ true) (close : near (ranks_of p) e (get_or cs n []) ≡ true) where
  as-firm : (i : ℕ) → free_of (ranks_of p) e o cs (get_or cs i []) ≡ true
      → tidy p (without k (get_or cs i []) ++ without o (get_or cs n [])) ≡ tidy p (without k (firm (ranks_of p) e (get_or cs i [])) ++ without o (get_or cs n []))
  as-firm i f =
      firm-tidy p g e k o (get_or cs n []) (range n) (near_last (ranks_of p) e (get_or cs n []) close) (get_or cs i []) (range i) (rise i)
      (free-at (ranks_of p) e o cs n h there close (get_or cs i []) f)

  pub stood-tidy : tidy p (without k (get_or cs s.index []) ++ without o (get_or cs n [])) ≡ tidy p (without k (get_or cs j []) ++ without o (get_or cs n []))
  stood-tidy =
      as-firm s.index s.one ∙ ap (λ (x : List ℕ). tidy p (without k x ++ without o (get_or cs n []))) s.same ∙ sym (as-firm j s.other)
