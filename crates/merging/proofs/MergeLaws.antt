-- Merging two ascending clauses: the lower of the two next literals is the next of what they come to, ascending and each once.
-- Assumes nothing.
use Prim.Native.Nat.{ℕ, ◌+◌, ◌≤◌, ◌<◌, ◌/◌}
use mathlib.Core.Path.{◌≡◌, refl, sym, ap, ◌∙◌}
use mathlib.Core.Bool.{Bool, true, false, ◌||◌, not}
use mathlib.Core.List.{List, [], ◌∷◌, ◌++◌, append_assoc, append-nil}
use lib.ListN.{length, drop}
use lib.Dec.{eqb, ltb, leb}
use borrow.Author.Tests.{lt-ltb, le-ltb, ltb-true, leb-true}
use native.Mathlib.Omega.{arith}
use Rattle.meaning.specs.Lists.{all_of, any_of, keep_if, has, without}
use Rattle.meaning.specs.Formula.{var, odd, opposite}
use Rattle.meaning.specs.Tidy.{insert_new, ascending, both_phases}
use Rattle.meaning.specs.WellFormed.{ascends}
use Rattle.table.specs.Pending.{in_range}
use Rattle.merging.specs.Merging.{head_of, joined, Ordered, Above, Partway}
use Rattle.meaning.proofs.Basics.{by_cases, false_of, and_l, and_r, and_i, or-il, or-ir, eqb-self, eqb-eq, eqb-ne}
use Rattle.meaning.proofs.Lists.{any_append, any-agree, any-has, all_append, all-le, all-has, all-of-has, all-keep-le}
use Rattle.meaning.proofs.Literals.{var-opp, odd-opp, lit-path}
use Rattle.meaning.proofs.Ascends.{opp-differs}
use Rattle.table.proofs.SortLaws.{ascending-snoc, has-ascending, both-ascending}
use Rattle.table.proofs.PendingLaws.{range-bounds}

-- The order in which literals come makes no difference ------------------------------------------------------------------
swap : (l k : ℕ) (c : List ℕ) → insert_new l (insert_new k (ascending c)) ≡ insert_new k (insert_new l (ascending c))
unfolding ascending
swap l k c = ap (insert_new l) (sym (ascending-snoc c k)) ∙ ascending-snoc (l ∷ c) k

pub ascending-mid : (c : List ℕ) (l : ℕ) (d : List ℕ) → ascending (c ++ (l ∷ d)) ≡ insert_new l (ascending (c ++ d))
unfolding ascending
ascending-mid [] l d = refl
ascending-mid (k ∷ c) l d = ap (insert_new k) (ascending-mid c l d) ∙ swap k l (c ++ d)

pub ascending-turned : (c d : List ℕ) → ascending (c ++ d) ≡ ascending (d ++ c)
unfolding ascending
ascending-turned [] d = ap ascending (sym (append-nil d))
ascending-turned (l ∷ c) d = ap (insert_new l) (ascending-turned c d) ∙ sym (ascending-mid d l c)

-- A literal whose variable is below all others ----------------------------------------------------------------------------
abbrev lowest : ℕ → List ℕ → Bool
lowest l c = all_of (λ k. ltb (var l) (var k)) c

module _ (l : ℕ) where
  above-lit : (k : ℕ) → ltb (var l) (var k) ≡ true → l < k
  unfolding var
  above-lit k h = let m = ltb-true (l / 2) (k / 2) h in omega arith

  lowest-ascending : (c : List ℕ) → lowest l c ≡ true → lowest l (ascending c) ≡ true
  lowest-ascending c h =
      all-of-has (λ k. ltb (var l) (var k)) (ascending c) (λ k i. all-has (λ k. ltb (var l) (var k)) c k h (sym (has-ascending k c) ∙ i))

  insert-first : (c : List ℕ) → lowest l c ≡ true → insert_new l c ≡ l ∷ c
  unfolding insert_new all_of
  insert-first [] h = refl
  insert-first (k ∷ c) h = rw (lt-ltb l k (above-lit k (and_l (ltb (var l) (var k)) (lowest l c) h)))

  insert-again : (c : List ℕ) → insert_new l (l ∷ c) ≡ l ∷ c
  unfolding insert_new
  insert-again c = rw (le-ltb l l (omega arith), eqb-self l)

  -- it adds no second phase
  both_first : (c : List ℕ) → lowest l c ≡ true → both_phases (l ∷ c) ≡ both_phases c
  unfolding both_phases any_of has
  both_first c h =
      rw (apart l refl, none) (any-agree (λ k. ltb (var l) (var k)) (λ k. eqb (opposite k) l || has (opposite k) c) (λ k. has (opposite k) c) c h
      (λ k i. rw (differs k i)))
    where
      apart : (k : ℕ) → k ≡ l → eqb (opposite l) k ≡ false
      apart k e = eqb-ne (opposite l) k (λ d. opp-differs l (d ∙ e))

      none : any_of (λ k. eqb (opposite l) k) c ≡ false
      none =
          false_of (any_of (λ k. eqb (opposite l) k) c)
          (λ i. let m = ltb-true (var l) (var (opposite l)) (all-has (λ k. ltb (var l) (var k)) c (opposite l) h (unfold has in i)) in omega (arith, var-opp l))

      differs : (k : ℕ) → ltb (var l) (var k) ≡ true → eqb (opposite k) l ≡ false
      differs k i = let m = ltb-true (var l) (var k) i in eqb-ne (opposite k) l (λ e. omega (arith, var-opp k, ap var e))

-- What is left of two clauses ---------------------------------------------------------------------------------------------------
without_other : (o l : ℕ) (c : List ℕ) → (l ≡ o → ⊥) → without o (l ∷ c) ≡ l ∷ without o c
unfolding without keep_if
without_other o l c n = rw (eqb-ne o l (λ e. n (sym e)))

without-it : (o l : ℕ) (c : List ℕ) → l ≡ o → without o (l ∷ c) ≡ without o c
unfolding without keep_if
without-it o l c e = rw (eqb-eq (sym e))

joined-turned : (o k : ℕ) (x y : List ℕ) → ascending (joined o k x y) ≡ ascending (joined k o y x)
unfolding joined
joined-turned o k x y = ascending-turned (without o x) (without k y)

lowest-joined : (l o k : ℕ) (x y : List ℕ) → lowest l x ≡ true → lowest l y ≡ true → lowest l (joined o k x y) ≡ true
unfolding joined without
lowest-joined l o k x y h i =
    all_append (λ m. ltb (var l) (var m)) (keep_if (λ m. not (eqb o m)) x) (keep_if (λ m. not (eqb k m)) y)
    ∙ and_i (lowest l (keep_if (λ m. not (eqb o m)) x)) (lowest l (keep_if (λ m. not (eqb k m)) y))
    (all-keep-le (λ m. ltb (var l) (var m)) (λ m. not (eqb o m)) x h) (all-keep-le (λ m. ltb (var l) (var m)) (λ m. not (eqb k m)) y i)

-- a literal above n, and what stands above it
above-first : (n l : ℕ) (c : List ℕ) → Above n (l ∷ c) → (n < var l) × (in_range l ≡ true) × (lowest l c ≡ true)
unfolding all_of ascends
above-first n l c a = (
  ltb-true n (var l) (and_l (ltb n (var l)) (all_of (λ m. ltb n (var m)) c) a.low),
  and_l (in_range l) (all_of in_range c) a.range,
  and_l (lowest l c) (ascends c) a.rise,
)

above-rest : (n l : ℕ) (c : List ℕ) → Above n (l ∷ c) → Above n c
unfolding all_of ascends
above-rest n l c a =
    record {
      low = and_r (ltb n (var l)) (all_of (λ m. ltb n (var m)) c) a.low;
      range = and_r (in_range l) (all_of in_range c) a.range;
      rise = and_r (lowest l c) (ascends c) a.rise;
    }

above_more : (n l : ℕ) (c : List ℕ) → Above n c → n < var l → lowest l c ≡ true → Above (n + 1) c
above_more n l c a h i =
    record {
      low = all-le (λ m. ltb (var l) (var m)) (λ m. ltb (n + 1) (var m)) c
          (λ m t. let k = ltb-true (var l) (var m) t in lt-ltb (n + 1) (var m) (omega arith)) i;
      range = a.range;
      rise = a.rise;
    }

-- all variables of a clause are at least its first one's
lowest-clause : (n l : ℕ) (y : List ℕ) → Above n y → var l < var (head_of y) → lowest l y ≡ true
unfolding head_of all_of
lowest-clause n l [] a h = refl
lowest-clause n l (k ∷ d) a h =
    and_i (ltb (var l) (var k)) (lowest l d) (lt-ltb (var l) (var k) h)
    (all-le (λ m. ltb (var k) (var m)) (λ m. ltb (var l) (var m)) d
    (λ m t. let i = ltb-true (var k) (var m) t in lt-ltb (var l) (var m) (omega arith)) (above-first n k d a).2)

range-var : (l : ℕ) → in_range l ≡ true → var l ≤ 1023
unfolding in_range
range-var l h = leb-true (var l) 1023 (and_r (leb 1 (var l)) (leb (var l) 1023) h)

-- two literals of a variable that differ
opposite-of : (l m : ℕ) → var l ≡ var m → (l ≡ m → ⊥) → m ≡ opposite l
opposite-of l m e n =
    by_cases (odd l)
    (λ i. by_cases (odd m) (λ j. absurd (n (lit-path l m e (i ∙ sym j)))) (λ j. lit-path m (opposite l) (sym e ∙ sym (var-opp l)) (j ∙ sym (odd-opp l ∙ ap not i))))
    (λ i. by_cases (odd m) (λ j. lit-path m (opposite l) (sym e ∙ sym (var-opp l)) (j ∙ sym (odd-opp l ∙ ap not i))) (λ j. absurd (n (lit-path l m e (i ∙ sym j)))))

both_of : (c : List ℕ) (l : ℕ) → has l c ≡ true → has (opposite l) c ≡ true → both_phases c ≡ true
unfolding both_phases
both_of c l h i = any-has (λ m. has (opposite m) c) c l h i

has_first : (l : ℕ) (c : List ℕ) → has l (l ∷ c) ≡ true
unfolding has any_of
has_first l c = or-il (eqb l l) (has l c) (eqb-self l)

has-mid : (c : List ℕ) (l : ℕ) (d : List ℕ) → has l (c ++ (l ∷ d)) ≡ true
unfolding has
has-mid c l d = any_append (λ m. eqb l m) c (l ∷ d) ∙ or-ir (has l c) (has l (l ∷ d)) (has_first l d)

none-past : (n : ℕ) (y : List ℕ) → Above n y → var 4095 < var (head_of y) → ⊥
unfolding head_of var
none-past n [] a h = omega arith
none-past n (k ∷ d) a h = omega (arith, (range-bounds k (above-first n k d a).1).1)

past_all : (n k : ℕ) (d : List ℕ) → Above n (k ∷ d) → var 4095 ≡ var k → ⊥
unfolding var
past_all n k d a e = omega (arith, (range-bounds k (above-first n k d a).1).1)

module _ (raw front : List ℕ) (n o k : ℕ) where
  pub turned : (x y : List ℕ) → Partway raw front n o k x y → Partway raw front n k o y x
  turned x y p =
      record {
        one = p.other;
        other = p.one;
        sorted = p.sorted ∙ ap (λ (c : List ℕ). front ++ c) (joined-turned o k x y);
        phases = p.phases ∙ ap both_phases (joined-turned o k x y);
      }

  -- the next literal of the first clause is left out
  pub pass-first : (x y : List ℕ) → Partway raw front n o k x y → head_of x ≡ o → o < 4095 → Partway raw front n o k (drop 1 x) y
  unfolding head_of joined
  pass-first [] y p e h = absurd (omega arith)
  pass-first (l ∷ c) y p e h =
      let w : without o (l ∷ c) ≡ without o c = without-it o l c e in
      record { one = above-rest n l c p.one; other = p.other; sorted = rw w at p.sorted; phases = rw w at p.phases }

  -- it is below that of the second
  module _ (l : ℕ) (c y : List ℕ) (p : Partway raw front n o k (l ∷ c) y) (h : var l < var (head_of y)) (u : l ≡ o → ⊥) where
    first-lowest : lowest l (joined o k c y) ≡ true
    first-lowest = lowest-joined l o k c y (above-first n l c p.one).2 (lowest-clause n l y p.other h)

    first_next : ascending (joined o k (l ∷ c) y) ≡ l ∷ ascending (joined o k c y)
    unfolding joined ascending
    first_next =
        rw (without_other o l c u)
        (insert-first l (ascending (without o c ++ without k y)) (lowest-ascending l (without o c ++ without k y) first-lowest))

    put-lower : Partway raw (front ++ (l ∷ [])) (n + 1) o k c y
    put-lower =
        let a = above-first n l c p.one in
        record {
          one = above_more n l c (above-rest n l c p.one) a.0 a.2;
          other = above_more n l y p.other a.0 (lowest-clause n l y p.other h);
          sorted = p.sorted ∙ rw (first_next, append_assoc front (l ∷ []) (ascending (joined o k c y)));
          phases =
              p.phases
              ∙ rw first_next (both_first l (ascending (joined o k c y)) (lowest-ascending l (joined o k c y) first-lowest));
        }

  pub put_first : (x y : List ℕ) → Partway raw front n o k x y → var (head_of x) < var (head_of y) → (head_of x ≡ o → ⊥)
      → Partway raw (front ++ (head_of x ∷ [])) (n + 1) o k (drop 1 x) y
  unfolding head_of
  put_first [] y p h u = absurd (none-past n y p.other h)
  put_first (l ∷ c) y p h u = put-lower l c y p h u

  -- the two next literals are the same
  same_next : (l : ℕ) (c d : List ℕ) → (l ≡ o → ⊥) → (l ≡ k → ⊥) → lowest l (joined o k c d) ≡ true
      → ascending (joined o k (l ∷ c) (l ∷ d)) ≡ l ∷ ascending (joined o k c d)
  unfolding joined ascending
  same_next l c d u v low =
      rw (
        without_other o l c u,
        without_other k l d v,
        ascending-mid (without o c) l (without k d),
        insert-first l (ascending (without o c ++ without k d)) (lowest-ascending l (without o c ++ without k d) low),
      ) (insert-again l (ascending (without o c ++ without k d)))

  put-equal : (l : ℕ) (c d : List ℕ) → Partway raw front n o k (l ∷ c) (l ∷ d) → (l ≡ o → ⊥) → (l ≡ k → ⊥)
      → Partway raw (front ++ (l ∷ [])) (n + 1) o k c d
  put-equal l c d p u v =
      let a = above-first n l c p.one in
      let b = above-first n l d p.other in
      let low = lowest-joined l o k c d a.2 b.2 in
      let next = same_next l c d u v low in
      record {
        one = above_more n l c (above-rest n l c p.one) a.0 a.2;
        other = above_more n l d (above-rest n l d p.other) a.0 b.2;
        sorted = p.sorted ∙ rw (next, append_assoc front (l ∷ []) (ascending (joined o k c d)));
        phases = p.phases ∙ rw next (both_first l (ascending (joined o k c d)) (lowest-ascending l (joined o k c d) low));
      }

  pub put_same : (x y : List ℕ) → Partway raw front n o k x y → head_of x ≡ head_of y → head_of x < 4095 → (head_of x ≡ o → ⊥) → (head_of y ≡ k → ⊥)
      → Partway raw (front ++ (head_of x ∷ [])) (n + 1) o k (drop 1 x) (drop 1 y)
  unfolding head_of
  put_same [] y p e h u v = absurd (omega arith)
  put_same (l ∷ c) [] p e h u v = absurd (omega arith)
  put_same (l ∷ c) (m ∷ d) p e h u v = put-equal l c d (rw (← e) at p) u (λ i. v (sym e ∙ i))

  -- they are the two phases of a variable
  pub both-met : (x y : List ℕ) → Partway raw front n o k x y → var (head_of x) ≡ var (head_of y) → (head_of x ≡ head_of y → ⊥)
      → (head_of x ≡ o → ⊥) → (head_of y ≡ k → ⊥) → both_phases raw ≡ true
  unfolding head_of joined both_phases
  both-met [] [] p e w u v = absurd (w refl)
  both-met [] (m ∷ d) p e w u v = absurd (past_all n m d p.other e)
  both-met (l ∷ c) [] p e w u v = absurd (past_all n l c p.one (sym e))
  both-met (l ∷ c) (m ∷ d) p e w u v =
      let is : m ≡ opposite l = opposite-of l m e w in
      p.phases
      ∙ both-ascending (without o (l ∷ c) ++ without k (m ∷ d))
      ∙ rw (without_other o l c u, without_other k m d v)
      (both_of (l ∷ (without o c ++ (m ∷ without k d))) l (has_first l (without o c ++ (m ∷ without k d)))
      (rw is (has-mid (l ∷ without o c) (opposite l) (without k d))))

  -- there is room for one more
  pub put-room : (x y : List ℕ) → Partway raw front n o k x y → head_of x < 4095 → n < 1023
  unfolding head_of
  put-room [] y p h = absurd (omega arith)
  put-room (l ∷ c) y p h = let a = above-first n l c p.one in omega (arith, a.0, range-var l a.1)

  pub first-there : (x y : List ℕ) → Partway raw front n o k x y → var (head_of x) < var (head_of y) → head_of x < 4095
  unfolding head_of
  first-there [] y p h = absurd (none-past n y p.other h)
  first-there (l ∷ c) y p h = omega (arith, (range-bounds l (above-first n l c p.one).1).1)

  -- a clause that has no next literal has none at all
  pub head-none : (x y : List ℕ) → Partway raw front n o k x y → 4095 ≤ head_of x → length x ≡ 0
  unfolding head_of
  head-none [] y p h = refl
  head-none (l ∷ c) y p h = absurd (omega (arith, (range-bounds l (above-first n l c p.one).1).1))

  -- nothing is left
  pub merged-all : Partway raw front n o k [] [] → (ascending raw ≡ front) × (both_phases raw ≡ false)
  unfolding joined without keep_if ascending both_phases any_of
  merged-all p = (p.sorted ∙ append-nil front, p.phases)

-- All of two clauses is left -----------------------------------------------------------------------------------------------------
pub above-none : (x : List ℕ) → Ordered x → Above 0 x
above-none x g =
    record {
      low = all-le in_range (λ l. ltb 0 (var l)) x
          (λ l i. lt-ltb 0 (var l) (leb-true 1 (var l) (and_l (leb 1 (var l)) (leb (var l) 1023) (unfold in_range in i)))) g.range;
      range = g.range;
      rise = g.rise;
    }

pub joined-range : (o k : ℕ) (x y : List ℕ) → all_of in_range x ≡ true → all_of in_range y ≡ true → all_of in_range (joined o k x y) ≡ true
unfolding joined without
joined-range o k x y a b =
    all_append in_range (keep_if (λ m. not (eqb o m)) x) (keep_if (λ m. not (eqb k m)) y)
    ∙ and_i (all_of in_range (keep_if (λ m. not (eqb o m)) x)) (all_of in_range (keep_if (λ m. not (eqb k m)) y))
    (all-keep-le in_range (λ m. not (eqb o m)) x a) (all-keep-le in_range (λ m. not (eqb k m)) y b)

-- it has at most one literal for each variable that is left
above-few : (n : ℕ) (x : List ℕ) → n ≤ 1023 → Above n x → n + length x ≤ 1023
above-few n [] h a = omega arith
above-few n (l ∷ c) h a =
    let f = above-first n l c a in
    let r = above-rest n l c a in
    omega (
      arith,
      f.0,
      above-few (var l) c (range-var l f.1) (record { low = f.2; range = r.range; rise = r.rise }),
    )

pub clause-few : (x : List ℕ) → Ordered x → length x ≤ 1023
clause-few x g = omega (arith, above-few 0 x (omega arith) (above-none x g))
