-- Raw clauses that grow at the right end: what is sorted stays sorted, and what has both phases keeps them.
-- Assumes nothing.
use Prim.Native.Nat.{ℕ, ◌+◌, ◌≤◌, ◌<◌}
use mathlib.Core.Path.{◌≡◌, refl, sym, ap, ap₂, ◌∙◌, subst, fun_ext}
use mathlib.Core.Bool.{Bool, true, false, ◌&&◌, ◌||◌, not}
use mathlib.Core.List.{List, [], ◌∷◌, ◌++◌}
use lib.ListN.{length}
use lib.Dec.{eqb, ltb, leb}
use borrow.Author.Tests.{lt-ltb, le-ltb, ltb-true, ltb-false, leb-true}
use native.Mathlib.Omega.{arith}
use Rattle.meaning.specs.Lists.{any_of, all_of, has}
use Rattle.meaning.specs.Formula.{var, odd, opposite, is_var, mentions}
use Rattle.meaning.specs.Tidy.{insert_new, ascending, both_phases}
use Rattle.meaning.specs.WellFormed.{good_prefix}
use Rattle.table.specs.Pending.{in_range}
use Rattle.table.specs.Ranks.{small}
use Rattle.meaning.proofs.Basics.{by_cases, iff, clash, false_of, and_l, and_r, and_i, or_l, or_r, or-il, or-ir, or_elim, or-false, eqb-self, eqb-true, eqb-ne, eqb-sym}
use Rattle.meaning.proofs.Lists.{any_append, any-has, any-witness, any-le, all-has, all-of-has, any-ascending, any-insert, all-le}
use Rattle.meaning.proofs.Literals.{lit-path, var-opp, odd-opp, opp-opp}
use Rattle.meaning.proofs.Ascends.{opp-differs}
use Rattle.meaning.proofs.Prefix.{good-out, good-tail, prefix-few}

-- Insertions in any order -------------------------------------------------------------------------------------
insert-twice : (a : ℕ) (c : List ℕ) → insert_new a (insert_new a c) ≡ insert_new a c
unfolding insert_new
insert-twice a [] = simp (le-ltb a a (omega arith), eqb-self a)
insert-twice a (k ∷ c) =
    by_cases (ltb a k)
    (λ h. simp (h, le-ltb a a (omega arith), eqb-self a))
    (λ h. by_cases (eqb a k) (λ e. simp (h, e)) (λ e. simp (h, e) (ap (λ (r : List ℕ). k ∷ r) (insert-twice a c))))

swap-less : (a b : ℕ) → a < b → (c : List ℕ) → insert_new a (insert_new b c) ≡ insert_new b (insert_new a c)
unfolding insert_new
swap-less a b l [] = simp (lt-ltb a b l, le-ltb b a (omega arith), eqb-ne b a (λ e. omega arith))
swap-less a b l (k ∷ c) =
    by_cases (ltb a k)
    (λ h. by_cases (ltb b k)
    (λ g. simp (h, g, lt-ltb a b l, le-ltb b a (omega arith), eqb-ne b a (λ e. omega arith)))
    (λ g. by_cases (eqb b k)
    (λ e. simp (h, g, e, le-ltb b a (omega arith), eqb-ne b a (λ e. omega arith)))
    (λ e. simp (h, g, e, le-ltb b a (omega arith), eqb-ne b a (λ e. omega arith)))))
    (λ h.
    let n = ltb-false a k h in
    by_cases (eqb a k)
    (λ e. simp (h, e, le-ltb b k (omega arith), eqb-ne b k (λ e. omega arith)))
    (λ e. simp (h, e, le-ltb b k (omega arith), eqb-ne b k (λ e. omega arith)) (ap (λ (r : List ℕ). k ∷ r) (swap-less a b l c))))

insert-swap : (a b : ℕ) (c : List ℕ) → insert_new a (insert_new b c) ≡ insert_new b (insert_new a c)
insert-swap a b c =
    by_cases (ltb a b) (λ h. swap-less a b (ltb-true a b h) c)
    (λ h. by_cases (ltb b a) (λ g. sym (swap-less b a (ltb-true b a g) c))
    (λ g. let n = ltb-false a b h in let m = ltb-false b a g in let e : a ≡ b = omega arith in rw e))

pub ascending-snoc : (c : List ℕ) (l : ℕ) → ascending (c ++ (l ∷ [])) ≡ insert_new l (ascending c)
unfolding ascending
ascending-snoc [] l = refl
ascending-snoc (x ∷ c) l = ap (insert_new x) (ascending-snoc c l) ∙ insert-swap x l (ascending c)

pub has-ascending : (l : ℕ) (c : List ℕ) → has l (ascending c) ≡ has l c
unfolding has
has-ascending l c = any-ascending (λ k. eqb l k) c

-- a literal that is there already
pub insert-there : (l : ℕ) (c : List ℕ) → has l c ≡ true → insert_new l (ascending c) ≡ ascending c
unfolding ascending has any_of
insert-there l [] h = clash h refl
insert-there l (x ∷ c) h =
    or_elim (eqb l x) (any_of (λ k. eqb l k) c) h
    (λ e. ap (λ (y : ℕ). insert_new y (insert_new x (ascending c))) (eqb-true l x e) ∙ insert-twice x (ascending c))
    (λ e. insert-swap l x (ascending c) ∙ ap (insert_new x) (insert-there l c e))

-- Both phases -------------------------------------------------------------------------------------------------
pub both-ascending : (c : List ℕ) → both_phases (ascending c) ≡ both_phases c
unfolding both_phases
both-ascending c =
    any-ascending (λ l. has (opposite l) (ascending c)) c
    ∙ ap (λ (f : ℕ → Bool). any_of f c) (fun_ext (λ l. has-ascending (opposite l) c))

has-snoc : (x : ℕ) (c : List ℕ) (l : ℕ) → has x (c ++ (l ∷ [])) ≡ (has x c || eqb x l)
unfolding has any_of
has-snoc x c l = any_append (λ k. eqb x k) c (l ∷ []) ∙ ap (λ (b : Bool). has x c || b) (or-false (eqb x l))

pub both-snoc : (c : List ℕ) (l : ℕ) → both_phases (c ++ (l ∷ [])) ≡ (both_phases c || has (opposite l) c)
unfolding both_phases
both-snoc c l =
    iff (any_of (λ k. has (opposite k) d) d) (both || has (opposite l) c)
    (λ h.
    let w = any-witness (λ k. has (opposite k) d) d h in
    or_elim (has w.0 c) (eqb w.0 l) (sym (has-snoc w.0 c l) ∙ w.1)
    (λ k. or_elim (has (opposite w.0) c) (eqb (opposite w.0) l) (sym (has-snoc (opposite w.0) c l) ∙ w.2)
    (λ o. or-il both (has (opposite l) c) (any-has (λ k. has (opposite k) c) c w.0 k o))
    (λ o. or-ir both (has (opposite l) c) (subst (λ (x : ℕ). has x c ≡ true) (sym (opp-opp w.0) ∙ ap opposite (eqb-true (opposite w.0) l o)) k)))
    (λ k.
    let e = eqb-true w.0 l k in
    or-ir both (has (opposite l) c)
    (or_elim (has (opposite w.0) c) (eqb (opposite w.0) l) (sym (has-snoc (opposite w.0) c l) ∙ w.2)
    (λ o. subst (λ (x : ℕ). has (opposite x) c ≡ true) e o)
    (λ o. absurd (opp-differs w.0 (eqb-true (opposite w.0) l o ∙ sym e))))))
    (λ h. or_elim both (has (opposite l) c) h
    (λ b.
    let w = any-witness (λ k. has (opposite k) c) c b in
    any-has (λ k. has (opposite k) d) d w.0 (more w.0 w.1) (more (opposite w.0) w.2))
    (λ o. any-has (λ k. has (opposite k) d) d l (has-snoc l c l ∙ or-ir (has l c) (eqb l l) (eqb-self l)) (more (opposite l) o)))
  where
    d : List ℕ
    d = c ++ (l ∷ [])

    both : Bool
    both = any_of (λ k. has (opposite k) c) c

    more : (x : ℕ) → has x c ≡ true → has x d ≡ true
    more x h = has-snoc x c l ∙ or-il (has x c) (eqb x l) h

-- How many literals -------------------------------------------------------------------------------------------
-- a variable of which neither phase is there
unmentioned : (l : ℕ) (c : List ℕ) → has l c ≡ false → has (opposite l) c ≡ false → mentions c (var l) ≡ false
unfolding mentions is_var
unmentioned l c h o =
    false_of (any_of (λ k. eqb (var k) (var l)) c)
    (λ m.
    let w = any-witness (λ k. eqb (var k) (var l)) c m in
    either w.0 (eqb-true (var w.0) (var l) w.2) w.1)
  where
    same-phase : (k : ℕ) → var k ≡ var l → odd k ≡ odd l → has k c ≡ true → ⊥
    same-phase k v e i = clash (subst (λ (x : ℕ). has x c ≡ true) (lit-path k l v e) i) h

    other-phase : (k : ℕ) → var k ≡ var l → odd k ≡ not (odd l) → has k c ≡ true → ⊥
    other-phase k v e i = clash (subst (λ (x : ℕ). has x c ≡ true) (lit-path k (opposite l) (v ∙ sym (var-opp l)) (e ∙ sym (odd-opp l))) i) o

    either : (k : ℕ) → var k ≡ var l → has k c ≡ true → ⊥
    either k v i =
        by_cases (odd k)
        (λ a. by_cases (odd l) (λ b. same-phase k v (a ∙ sym b) i) (λ b. other-phase k v (a ∙ sym (ap not b)) i))
        (λ a. by_cases (odd l) (λ b. other-phase k v (a ∙ sym (ap not b)) i) (λ b. same-phase k v (a ∙ sym b) i))

good-cons : (q : ℕ) (p : List ℕ) → 0 < var q → mentions p (var q) ≡ false → good_prefix p ≡ true → good_prefix (q ∷ p) ≡ true
unfolding good_prefix
good-cons q p v out g = and_i (ltb 0 (var q)) (not (mentions p (var q)) && good_prefix p) (lt-ltb 0 (var q) v) (and_i (not (mentions p (var q))) (good_prefix p) (ap not out) g)

good-first : (q : ℕ) (p : List ℕ) → good_prefix (q ∷ p) ≡ true → 0 < var q
unfolding good_prefix
good-first q p g = ltb-true 0 (var q) (and_l (ltb 0 (var q)) (not (mentions p (var q)) && good_prefix p) g)

mentions-insert : (l k : ℕ) (c : List ℕ) → mentions (k ∷ c) (var l) ≡ false → mentions c (var k) ≡ false → (mentions (insert_new l c) (var k) ≡ false) × (mentions c (var l) ≡ false)
unfolding mentions is_var any_of
mentions-insert l k c out h = (
  any-insert (λ q. eqb (var q) (var k)) l c ∙ ap₂ ◌||◌ (eqb-sym (var l) (var k) ∙ or_l (eqb (var k) (var l)) (any_of (λ q. eqb (var q) (var l)) c) out) h,
  or_r (eqb (var k) (var l)) (any_of (λ q. eqb (var q) (var l)) c) out,
)

good-insert : (l : ℕ) (c : List ℕ) → good_prefix c ≡ true → 0 < var l → mentions c (var l) ≡ false → good_prefix (insert_new l c) ≡ true
unfolding insert_new
good-insert l [] g v out = good-cons l [] v out g
good-insert l (k ∷ c) g v out =
    let m = mentions-insert l k c out (good-out k c g) in
    let ih = good-insert l c (good-tail k c g) v m.1 in
    by_cases (ltb l k)
    (λ h. rw h (good-cons l (k ∷ c) v out g))
    (λ h. by_cases (eqb l k) (λ e. rw (h, e) g) (λ e. rw (h, e) (good-cons k (insert_new l c) (good-first k c g) m.0 ih)))

both-tail : (x : ℕ) (c : List ℕ) → both_phases (x ∷ c) ≡ false → (has (opposite x) c ≡ false) × (both_phases c ≡ false)
unfolding both_phases any_of has
both-tail x c h = (
  or_r (eqb (opposite x) x) (has (opposite x) c) (or_l (has (opposite x) (x ∷ c)) (any_of (λ l. has (opposite l) (x ∷ c)) c) h),
  false_of (any_of (λ l. has (opposite l) c) c)
      (λ b. clash (any-le (λ l. has (opposite l) c) (λ l. has (opposite l) (x ∷ c)) c (λ l. or-ir (eqb (opposite l) x) (has (opposite l) c)) b) (or_r (has (opposite x) (x ∷ c)) (any_of (λ l. has (opposite l) (x ∷ c)) c) h)),
)

in-range : (l : ℕ) → in_range l ≡ true → 0 < var l
unfolding in_range
in-range l h = leb-true 1 (var l) (and_l (leb 1 (var l)) (leb (var l) 1023) h)

good-ascending : (c : List ℕ) → all_of in_range c ≡ true → both_phases c ≡ false → good_prefix (ascending c) ≡ true
unfolding ascending all_of good_prefix
good-ascending [] a b = refl
good-ascending (x ∷ c) a b =
    let d = both-tail x c b in
    let ih = good-ascending c (and_r (in_range x) (all_of in_range c) a) d.1 in
    by_cases (has x c)
    (λ h. rw (insert-there x c h) ih)
    (λ h. good-insert x (ascending c) ih (in-range x (and_l (in_range x) (all_of in_range c) a)) (unmentioned x (ascending c) (has-ascending x c ∙ h) (has-ascending (opposite x) c ∙ d.0)))

pub small-ascending : (c : List ℕ) → all_of in_range c ≡ true → all_of small (ascending c) ≡ true
small-ascending c a =
    all-of-has small (ascending c)
    (λ k h. all-has small c k (all-le in_range small c (λ l e. unfold in_range small in and_r (leb 1 (var l)) (leb (var l) 1023) (unfold in_range in e)) a) (sym (has-ascending k c) ∙ h))

-- a clause without both phases has no literal's opposite
pub single-opp : (c : List ℕ) (l : ℕ) → both_phases c ≡ false → has l c ≡ true → has (opposite l) c ≡ false
unfolding both_phases
single-opp c l b h = false_of (has (opposite l) c) (λ o. clash (any-has (λ k. has (opposite k) c) c l h o) b)

-- an ascending clause of the variables 1 to 1,023 without both phases
pub ascending-few : (c : List ℕ) → all_of in_range c ≡ true → both_phases c ≡ false → length (ascending c) ≤ 1023
ascending-few c a b = prefix-few 1023 (ascending c) (good-ascending c a b) (unfold small in small-ascending c a)

pub insert-longer : (l : ℕ) (c : List ℕ) → has l c ≡ false → length (insert_new l c) ≡ length c + 1
unfolding insert_new has any_of
insert-longer l [] h = refl
insert-longer l (k ∷ c) h =
    let e = or_l (eqb l k) (any_of (λ k. eqb l k) c) h in
    by_cases (ltb l k)
    (λ t. rw t (omega arith))
    (λ t. rw (t, e) (omega (arith, insert-longer l c (or_r (eqb l k) (any_of (λ k. eqb l k) c) h))))
