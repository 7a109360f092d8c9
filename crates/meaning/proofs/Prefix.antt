-- Laws of prefixes: in a good prefix each variable stands once, so as one kind; an entry more at the right end; how many
-- entries there are. Assumes nothing.
use Prim.Native.Nat.{zero, suc, ◌≤◌, ◌<◌, ℕ, ◌+◌, ◌*◌}
use native.Mathlib.Omega.{arith}
use borrow.Author.Tests.{ltb-true, leb-true, lt-ltb, ne_eqb}
use mathlib.Core.List.{◌++◌, List, [], ◌∷◌}
use lib.Dec.{leb, eqb}
use lib.ListN.{length}
use mathlib.Core.Path.{◌≡◌, refl, sym, ◌∙◌, ap, ap₂, fun_ext, subst}
use mathlib.Core.Bool.{Bool, true, false, ◌&&◌, ◌||◌, not, cond, false≢true}
use Rattle.meaning.specs.Lists.{all_of, any_of, has}
use Rattle.meaning.specs.WellFormed.{bound, good_prefix}
use Rattle.meaning.specs.Formula.{var, odd, is_var, mentions, drop_var, existential, universal, right_of}
use Rattle.meaning.proofs.Basics.{or_l, or_r, eqb-sym, iff, clash, false_of, and_l, and_r, and_i, or-ir, or_elim, not-true, eqb-true, eqb-eq, eqb-ne, eqb-false, by_cases}
use Rattle.meaning.proofs.Lists.{any_append, all-le, any-le, any-keep, any_none, keep_all}
use Rattle.meaning.proofs.Literals.{plain-is, negated-is, var-plain, var-negated, odd-plain, odd-negated}

-- the first entry's variable is not in the rest, and the rest is good
pub good-out : (q : ℕ) (p : List ℕ) → good_prefix (q ∷ p) ≡ true → mentions p (var q) ≡ false
unfolding good_prefix
good-out q p h = search (and_l, and_r, not-true)

pub good-tail : (q : ℕ) (p : List ℕ) → good_prefix (q ∷ p) ≡ true → good_prefix p ≡ true
unfolding good_prefix
good-tail q p h = search (and_l, and_r)

-- an entry against the two entries of a variable
pub eqb-plain : (v q : ℕ) → eqb (2 * v) q ≡ (eqb (var q) v && not (odd q))
eqb-plain v q =
    iff (eqb (2 * v) q) (eqb (var q) v && not (odd q))
    (λ h. and_i (eqb (var q) v) (not (odd q)) (eqb-eq (ap var (sym (eqb-true (2 * v) q h)) ∙ var-plain v)) (ap not (ap odd (sym (eqb-true (2 * v) q h)) ∙ odd-plain v)))
    (λ h. eqb-eq (sym (plain-is q (search (and_r, not-true)) ∙ ap (λ (w : ℕ). 2 * w) (eqb-true (var q) v (and_l (eqb (var q) v) (not (odd q)) h)))))

pub eqb-negated : (v q : ℕ) → eqb (2 * v + 1) q ≡ (eqb (var q) v && odd q)
eqb-negated v q =
    iff (eqb (2 * v + 1) q) (eqb (var q) v && odd q)
    (λ h. and_i (eqb (var q) v) (odd q) (eqb-eq (ap var (sym (eqb-true (2 * v + 1) q h)) ∙ var-negated v)) (ap odd (sym (eqb-true (2 * v + 1) q h)) ∙ odd-negated v))
    (λ h. eqb-eq (sym (negated-is q (and_r (eqb (var q) v) (odd q) h) ∙ ap (λ (w : ℕ). 2 * w + 1) (eqb-true (var q) v (and_l (eqb (var q) v) (odd q) h)))))

-- an entry of a variable mentions it; so a variable that is not mentioned has neither
pub exists-mentioned : (p : List ℕ) (v : ℕ) → existential p v ≡ true → mentions p v ≡ true
unfolding existential mentions has is_var
exists-mentioned p v h = any-le (λ k. eqb (2 * v) k) (λ q. eqb (var q) v) p (λ q e. and_l (eqb (var q) v) (not (odd q)) (sym (eqb-plain v q) ∙ e)) h

pub forall-mentioned : (p : List ℕ) (v : ℕ) → universal p v ≡ true → mentions p v ≡ true
unfolding universal mentions has is_var
forall-mentioned p v h = any-le (λ k. eqb (2 * v + 1) k) (λ q. eqb (var q) v) p (λ q e. and_l (eqb (var q) v) (odd q) (sym (eqb-negated v q) ∙ e)) h

pub not-existential : (p : List ℕ) (v : ℕ) → mentions p v ≡ false → existential p v ≡ false
not-existential p v out = false_of (existential p v) (λ h. clash (exists-mentioned p v h) out)

pub not-universal : (p : List ℕ) (v : ℕ) → mentions p v ≡ false → universal p v ≡ false
not-universal p v out = false_of (universal p v) (λ h. clash (forall-mentioned p v h) out)

-- an existential is no universal
pub one-kind : (p : List ℕ) → good_prefix p ≡ true → (v : ℕ) → existential p v ≡ true → universal p v ≡ false
unfolding existential universal has any_of
one-kind [] good v h = refl
one-kind (q ∷ p) good v h =
    or_elim (eqb (2 * v) q) (existential p v) h
    (λ e. ap₂ ◌||◌ (eqb-negated v q ∙ odd-no (sym (eqb-plain v q) ∙ e)) (not-universal p v (subst (λ (w : ℕ). mentions p w ≡ false) (is e) (good-out q p good))))
    (λ e. ap₂ ◌||◌ (eqb-negated v q ∙ ap (λ (b : Bool). b && odd q) (eqb-ne (var q) v (λ i. clash (exists-mentioned p v e) (subst (λ (w : ℕ). mentions p w ≡ false) i (good-out q p good))))) (one-kind p (good-tail q p good) v e))
  where
    is : eqb (2 * v) q ≡ true → var q ≡ v
    is e = sym (ap var (eqb-true (2 * v) q e)) ∙ var-plain v

    odd-no : (eqb (var q) v && not (odd q)) ≡ true → (eqb (var q) v && odd q) ≡ false
    odd-no e = go (eqb (var q) v) (odd q) e
      where
        go : (s t : Bool) → (s && not t) ≡ true → (s && t) ≡ false
        go true true k = absurd (false≢true k)
        go true false k = refl
        go false t k = refl

-- without a variable the others stay
pub drop-other : (v w : ℕ) (d : List ℕ) → eqb v w ≡ false → mentions (drop_var v d) w ≡ mentions d w
unfolding mentions drop_var is_var
drop-other v w d h =
    any-keep (λ q. eqb (var q) w) (λ q. not (eqb (var q) v)) d
    ∙ ap (λ (f : ℕ → Bool). any_of f d) (fun_ext (λ q. go q))
  where
    keep : (s t : Bool) → (t ≡ true → s ≡ false) → (not s && t) ≡ t
    keep true true e = clash refl (e refl)
    keep true false e = refl
    keep false t e = refl

    go : (q : ℕ) → (not (eqb (var q) v) && eqb (var q) w) ≡ eqb (var q) w
    go q = keep (eqb (var q) v) (eqb (var q) w) (λ e. eqb-ne (var q) v (λ x. eqb-false v w h (sym x ∙ eqb-true (var q) w e)))

pub drop-none : (v : ℕ) (p : List ℕ) → mentions p v ≡ false → drop_var v p ≡ p
unfolding mentions drop_var
drop-none v p out = keep_all (λ q. not (is_var v q)) p (any_none (is_var v) p out)

-- what stands right of a variable stands in the prefix
pub right-any : (f : ℕ → Bool) (v : ℕ) (p : List ℕ) → any_of f (right_of v p) ≡ true → any_of f p ≡ true
unfolding right_of any_of
right-any f v [] h = h
right-any f v (q ∷ p) h = or-ir (f q) (any_of f p) (go (is_var v q) h (right-any f v p))
  where
    go : (s : Bool) → any_of f (cond s p (right_of v p)) ≡ true → (any_of f (right_of v p) ≡ true → any_of f p ≡ true) → any_of f p ≡ true
    go true k ih = k
    go false k ih = ih k

pub right-mentioned : (v : ℕ) (p : List ℕ) (w : ℕ) → mentions (right_of v p) w ≡ true → mentions p w ≡ true
unfolding mentions
right-mentioned v p w h = right-any (is_var w) v p h

-- Good prefixes ----------------------------------------------------------------------------------------------
good-first : (q : ℕ) (p : List ℕ) → good_prefix (q ∷ p) ≡ true → 0 < var q
unfolding good_prefix
good-first q p h = ltb-true 0 (var q) (search and_l)

good-cons : (q : ℕ) (p : List ℕ) → 0 < var q → mentions p (var q) ≡ false → good_prefix p ≡ true → good_prefix (q ∷ p) ≡ true
unfolding good_prefix
good-cons q p h k g = rw (lt-ltb 0 (var q) h, k, g)

mentions-append : (p s : List ℕ) (v : ℕ) → mentions (p ++ s) v ≡ (mentions p v || mentions s v)
unfolding mentions
mentions-append p s v = any_append (is_var v) p s

-- an entry of a new variable may be added at the right end
pub good-snoc : (p : List ℕ) (e : ℕ) → good_prefix p ≡ true → 0 < var e → mentions p (var e) ≡ false → good_prefix (p ++ (e ∷ [])) ≡ true
unfolding mentions any_of is_var
good-snoc [] e g h k = good-cons e [] h k g
good-snoc (q ∷ p) e g h k =
    good-cons q (p ++ (e ∷ [])) (good-first q p g)
    (mentions-append p (e ∷ []) (var q) ∙ rw (good-out q p g, eqb-sym (var e) (var q), or_l (eqb (var q) (var e)) (mentions p (var e)) k))
    (good-snoc p e (good-tail q p g) h (or_r (eqb (var q) (var e)) (mentions p (var e)) k))

-- and an entry of a good prefix is of a new variable: one over 0 that stands nowhere to the left
pub good-next : (p : List ℕ) (e : ℕ) (s : List ℕ) → good_prefix (p ++ (e ∷ s)) ≡ true → (0 < var e) × (mentions p (var e) ≡ false)
unfolding mentions any_of is_var
good-next [] e s g = (good-first e s g, refl)
good-next (q ∷ p) e s g =
    let r = good-next p e s (good-tail q (p ++ (e ∷ s)) g) in
    let out : (mentions p (var q) || mentions (e ∷ s) (var q)) ≡ false = sym (mentions-append p (e ∷ s) (var q)) ∙ good-out q (p ++ (e ∷ s)) g in
    (r.0, rw (eqb-sym (var q) (var e), or_l (eqb (var e) (var q)) (mentions s (var q)) (or_r (mentions p (var q)) (mentions (e ∷ s) (var q)) out)) r.1)

-- The numbers of a prefix's variables ------------------------------------------------------------------------
pub mentioned-all : (f : ℕ → Bool) (p : List ℕ) (v : ℕ) → all_of (λ q. f (var q)) p ≡ true → mentions p v ≡ true → f v ≡ true
unfolding mentions any_of all_of is_var
mentioned-all f [] v h k = absurd (false≢true k)
mentioned-all f (q ∷ p) v h k =
    or_elim (eqb (var q) v) (mentions p v) k
    (λ e. subst (λ (x : ℕ). f x ≡ true) (eqb-true (var q) v e) (search and_l))
    (λ e. mentioned-all f p v (search and_r) e)

pub mentioned-some : (p : List ℕ) (v : ℕ) → good_prefix p ≡ true → mentions p v ≡ true → 0 < v
unfolding mentions any_of is_var
mentioned-some [] v g k = absurd (false≢true k)
mentioned-some (q ∷ p) v g k =
    or_elim (eqb (var q) v) (mentions p v) k
    (λ e. let z = eqb-true (var q) v e in omega (arith, good-first q p g))
    (λ e. mentioned-some p v (good-tail q p g) e)

-- so of a bound clause's
pub bound-numbers : (f : ℕ → Bool) (p c : List ℕ) → all_of (λ q. f (var q)) p ≡ true → bound p c ≡ true → all_of (λ l. f (var l)) c ≡ true
unfolding bound
bound-numbers f p c h b = all-le (λ l. mentions p (var l)) (λ l. f (var l)) c (λ l k. mentioned-all f p (var l) h k) b

-- How many variables -----------------------------------------------------------------------------------------
-- how many of the variables 1 to m are in the prefix
count : ℕ → List ℕ → ℕ
count zero p = 0
count (suc v) p = cond (mentions p (suc v)) 1 0 + count v p

count-le : (m : ℕ) (p : List ℕ) → count m p ≤ m
unfolding count
count-le zero p = omega arith
count-le (suc v) p = go (mentions p (suc v)) (count-le v p)
  where
    go : (t : Bool) → count v p ≤ v → cond t 1 0 + count v p ≤ suc v
    go true h = omega arith
    go false h = omega arith

count_same : (m q : ℕ) (p : List ℕ) → m < var q → count m (q ∷ p) ≡ count m p
unfolding count mentions any_of is_var
count_same zero q p h = refl
count_same (suc v) q p h = rw (ne_eqb (var q) (suc v) (omega arith), count_same v q p (omega arith))

count-more : (m q : ℕ) (p : List ℕ) → 0 < var q → var q ≤ m → mentions p (var q) ≡ false → count m (q ∷ p) ≡ suc (count m p)
unfolding count mentions any_of is_var
count-more zero q p h k out = absurd (omega arith)
count-more (suc v) q p h k out =
    by_cases (eqb (var q) (suc v))
    (λ e. let z = eqb-true (var q) (suc v) e in let f : mentions p (suc v) ≡ false = rw (← z) out in rw (e, f, count_same v q p (omega arith)) (omega arith))
    (λ e. let z = eqb-false (var q) (suc v) e in rw (e, count-more v q p h (omega arith) out) (omega arith))

count-all : (m : ℕ) (p : List ℕ) → good_prefix p ≡ true → all_of (λ q. leb (var q) m) p ≡ true → length p ≤ count m p
unfolding all_of
count-all m [] g h = omega arith
count-all m (q ∷ p) g h =
    let k = leb-true (var q) m (search and_l) in
    omega (arith, count-all m p (good-tail q p g) (search and_r), count-more m q p (good-first q p g) k (good-out q p g))

-- a prefix of variables 1 to m, each once, has at most m entries
pub prefix-few : (m : ℕ) (p : List ℕ) → good_prefix p ≡ true → all_of (λ q. leb (var q) m) p ≡ true → length p ≤ m
prefix-few m p g h = omega (arith, count-all m p g h, count-le m p)
