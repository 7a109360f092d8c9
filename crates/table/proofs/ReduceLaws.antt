-- Over a good prefix, reduction by ranks is that of document 01: a rank is odd exactly if its variable is universal, and a
-- universal is left of the rightmost existential of the clause exactly if the clause has an existential to its right.
-- Assumes nothing.
use Prim.Native.Nat.{ℕ, suc, ◌+◌, ◌*◌, ◌/◌, ◌%◌, ◌≤◌, ◌<◌, max}
use mathlib.Core.Path.{◌≡◌, refl, sym, ap, ◌∙◌, subst}
use mathlib.Core.Bool.{Bool, true, false, ◌&&◌, ◌||◌, not, cond}
use mathlib.Core.List.{List, [], ◌∷◌}
use lib.Dec.{eqb, ltb}
use borrow.Author.Tests.{lt-ltb, le-ltb, ltb-true, ltb-false, leb-true}
use native.Mathlib.Omega.{arith}
use Rattle.meaning.specs.Lists.{any_of, all_of, keep_if, has}
use Rattle.meaning.specs.Formula.{var, odd, is_var, mentions, existential, universal, right_of, any_exist}
use Rattle.meaning.specs.Tidy.{stays, reduce}
use Rattle.meaning.specs.WellFormed.{good_prefix, reduced}
use Rattle.table.specs.Ranks.{rank_from, ranks_of, small, rank_at, place_at, later_by, last_by, stays_by, reduced_by}
use Rattle.meaning.proofs.Basics.{by_cases, iff, false_of, clash, and_l, and_r, and_i, not-true, eqb-true, eqb-eq}
use Rattle.meaning.proofs.Lists.{any-agree, all-agree, any-witness, any-has}
use Rattle.meaning.proofs.Literals.{odd_is, even_is, odd-of, even-of, var-plain, odd-plain, plain-is}
use Rattle.meaning.proofs.Prefix.{good-out, good-tail, eqb-plain, eqb-negated, forall-mentioned, not-existential, not-universal, right-mentioned}
use Rattle.table.proofs.RankLaws.{rank-at}

-- two tests that agree on a list keep the same of it
keep-agree : (t f g : ℕ → Bool) (c : List ℕ) → all_of t c ≡ true → ((x : ℕ) → t x ≡ true → f x ≡ g x) → keep_if f c ≡ keep_if g c
unfolding keep_if all_of
keep-agree t f g [] k h = refl
keep-agree t f g (x ∷ c) k h =
    rw (h x (and_l (t x) (all_of t c) k)) (ap (λ (r : List ℕ). cond (g x) (x ∷ r) r) (keep-agree t f g c (and_r (t x) (all_of t c) k) h))

-- The quantifier ----------------------------------------------------------------------------------------------
odd-rank : (k q : ℕ) → odd (2 * k + q % 2) ≡ odd q
odd-rank k q = by_cases (odd q) (λ h. let e = odd_is q h in odd-of (2 * k + q % 2) (omega arith) ∙ sym h) (λ h. let e = even_is q h in even-of (2 * k + q % 2) (omega arith) ∙ sym h)

rank-odd : (k : ℕ) (p : List ℕ) → good_prefix p ≡ true → (v : ℕ) → odd (rank_from k p v) ≡ universal p v
unfolding rank_from universal has any_of is_var
rank-odd k [] g v = even-of 0 refl
rank-odd k (q ∷ p) g v =
    by_cases (eqb (var q) v)
    (λ e.
    let out : universal p v ≡ false = not-universal p v (ap (mentions p) (sym (eqb-true (var q) v e)) ∙ good-out q p g) in
    rw (eqb-negated v q, e, out) (odd-rank k q ∙ sym (or-none (odd q))))
    (λ e. rw (eqb-negated v q, e) (rank-odd (suc k) p (good-tail q p g) v))
  where
    or-none : (b : Bool) → ((true && b) || false) ≡ b
    or-none true = refl
    or-none false = refl

-- The place ---------------------------------------------------------------------------------------------------
half : (k q : ℕ) → (2 * k + q % 2) / 2 ≡ k
half k q = omega arith

place-least : (k : ℕ) (p : List ℕ) (v : ℕ) → mentions p v ≡ true → k ≤ rank_from k p v / 2
unfolding rank_from mentions any_of is_var
place-least k [] v h = absurd (let z : ◌≡◌ {A = ℕ} 0 1 = cc in omega arith)
place-least k (q ∷ p) v h =
    by_cases (eqb (var q) v)
    (λ e. rw e (omega arith))
    (λ e. rw e (omega (arith, place-least (suc k) p v (rw e at h))))

-- w is an existential of places after k
later-exists : (k m : ℕ) → k < m → (p : List ℕ) → good_prefix p ≡ true → (w : ℕ) → (not (odd (rank_from m p w)) && ltb k (rank_from m p w / 2)) ≡ existential p w
unfolding rank_from existential has any_of is_var
later-exists k m l [] g w = rw (le-ltb k 0 (omega arith)) (and_none (not (odd 0)))
  where
    and_none : (b : Bool) → (b && false) ≡ false
    and_none true = refl
    and_none false = refl
later-exists k m l (q ∷ p) g w =
    by_cases (eqb (var q) w)
    (λ e.
    let out : existential p w ≡ false = not-existential p w (ap (mentions p) (sym (eqb-true (var q) w e)) ∙ good-out q p g) in
    rw (eqb-plain w q, e, out, odd-rank m q, half m q, lt-ltb k m l) (go (odd q)))
    (λ e. rw (eqb-plain w q, e) (later-exists k (suc m) (omega arith) p (good-tail q p g) w))
  where
    go : (b : Bool) → (not b && true) ≡ ((true && not b) || false)
    go true = refl
    go false = refl

-- w is an existential right of v
right-exists : (k : ℕ) (p : List ℕ) → good_prefix p ≡ true → (v w : ℕ) → mentions p v ≡ true → (not (odd (rank_from k p w)) && ltb (rank_from k p v / 2) (rank_from k p w / 2)) ≡ existential (right_of v p) w
unfolding rank_from right_of mentions any_of is_var
right-exists k [] g v w h = absurd (let z : ◌≡◌ {A = ℕ} 0 1 = cc in omega arith)
right-exists k (q ∷ p) g v w h =
    by_cases (eqb (var q) v)
    (λ e. by_cases (eqb (var q) w)
    (λ d. rw (e, d, half k q, le-ltb k k (omega arith)) (and_none (not (odd (2 * k + q % 2))) ∙ sym (not-existential p w (out w d))))
    (λ d. rw (e, d, half k q) (later-exists k (suc k) (omega arith) p (good-tail q p g) w)))
    (λ e. by_cases (eqb (var q) w)
    (λ d.
    let m : mentions p v ≡ true = rw e at h in
    rw (e, d, half k q, le-ltb (rank_from (suc k) p v / 2) k (omega (arith, place-least (suc k) p v m)))
    (and_none (not (odd (2 * k + q % 2))) ∙ sym (not-existential (right_of v p) w (false_of (mentions (right_of v p) w) (λ z. clash (right-mentioned v p w z) (out w d))))))
    (λ d. rw (e, d) (right-exists (suc k) p (good-tail q p g) v w (rw e at h))))
  where
    and_none : (b : Bool) → (b && false) ≡ false
    and_none true = refl
    and_none false = refl

    out : (w : ℕ) → eqb (var q) w ≡ true → mentions p w ≡ false
    out w d = ap (mentions p) (sym (eqb-true (var q) w d)) ∙ good-out q p g

-- some existential of the clause in this part of the prefix, from the clause's side
exist-turn : (d c : List ℕ) → any_of (λ l. existential d (var l)) c ≡ any_exist d c
exist-turn d c =
    iff (any_of (λ l. existential d (var l)) c) (any_exist d c)
    (λ h.
    let w = any-witness (λ l. existential d (var l)) c h in
    let v = var w.0 in
    unfold any_exist in
    any-has (λ q. not (odd q) && mentions c (var q)) d (2 * v) (unfold existential in w.2)
    (and_i (not (odd (2 * v))) (mentions c (var (2 * v))) (ap not (odd-plain v)) (unfold mentions is_var in any-has (λ l. eqb (var l) (var (2 * v))) c w.0 w.1 (eqb-eq (sym (var-plain v))))))
    (λ h.
    let w = any-witness (λ q. not (odd q) && mentions c (var q)) d (unfold any_exist in h) in
    let even = not-true (odd w.0) (and_l (not (odd w.0)) (mentions c (var w.0)) w.2) in
    let u = any-witness (λ l. eqb (var l) (var w.0)) c (unfold mentions is_var in and_r (not (odd w.0)) (mentions c (var w.0)) w.2) in
    any-has (λ l. existential d (var l)) c u.0 u.1
    (unfold existential in subst (λ (x : ℕ). has x d ≡ true) (plain-is w.0 even ∙ ap (λ (x : ℕ). 2 * x) (sym (eqb-true (var u.0) (var w.0) u.2))) w.1))

-- The rightmost place -----------------------------------------------------------------------------------------
last-any : (ranks : List ℕ) (x e : ℕ) (c : List ℕ) → ltb x (last_by ranks e c) ≡ (ltb x e || any_of (λ l. not (odd (rank_at ranks l)) && ltb x (place_at ranks l)) c)
unfolding last_by later_by any_of
last-any ranks x e [] = sym (or-none (ltb x e))
  where
    or-none : (b : Bool) → (b || false) ≡ b
    or-none true = refl
    or-none false = refl
last-any ranks x e (l ∷ c) =
    last-any ranks x (cond (odd (rank_at ranks l)) e (max e (place_at ranks l))) c
    ∙ go (odd (rank_at ranks l)) (any_of (λ l. not (odd (rank_at ranks l)) && ltb x (place_at ranks l)) c)
  where
    ltb-max : (a b : ℕ) → ltb x (max a b) ≡ (ltb x a || ltb x b)
    ltb-max a b =
        by_cases (ltb x a)
        (λ h. rw h (lt-ltb x (max a b) (let k = ltb-true x a h in omega arith)))
        (λ h. rw h (by_cases (ltb x b)
        (λ g. lt-ltb x (max a b) (let k = ltb-true x b g in omega arith) ∙ sym g)
        (λ g. le-ltb x (max a b) (let k = ltb-false x b g in let j = ltb-false x a h in omega arith) ∙ sym g)))

    assoc : (a b d : Bool) → ((a || b) || d) ≡ (a || (b || d))
    assoc true b d = refl
    assoc false b d = refl

    go : (b d : Bool) → (ltb x (cond b e (max e (place_at ranks l))) || d) ≡ (ltb x e || ((not b && ltb x (place_at ranks l)) || d))
    go true d = refl
    go false d = ap (λ (b : Bool). b || d) (ltb-max e (place_at ranks l)) ∙ assoc (ltb x e) (ltb x (place_at ranks l)) d

-- What stays --------------------------------------------------------------------------------------------------
rank-of : (p : List ℕ) (l : ℕ) → small l ≡ true → rank_at (ranks_of p) l ≡ rank_from 1 p (var l)
unfolding rank_at small
rank-of p l h = rank-at p (var l) (omega (arith, leb-true (var l) 1023 h))

module _ (p : List ℕ) (g : good_prefix p ≡ true) (c : List ℕ) (s : all_of small c ≡ true) where
  -- for a universal
  right-last : (v : ℕ) → mentions p v ≡ true → ltb (rank_from 1 p v / 2) (last_by (ranks_of p) 0 c) ≡ any_exist (right_of v p) c
  right-last v m =
      last-any (ranks_of p) (rank_from 1 p v / 2) 0 c
      ∙ rw (le-ltb (rank_from 1 p v / 2) 0 (omega arith))
      (any-agree small (λ l. not (odd (rank_at (ranks_of p) l)) && ltb (rank_from 1 p v / 2) (place_at (ranks_of p) l)) (λ l. existential (right_of v p) (var l)) c s
      (λ l h. unfold place_at in rw (rank-of p l h) (right-exists 1 p g v (var l) m))
      ∙ exist-turn (right_of v p) c)

  stays-is : (l : ℕ) → small l ≡ true → stays_by (ranks_of p) (last_by (ranks_of p) 0 c) l ≡ stays p c l
  unfolding stays_by place_at stays
  stays-is l h =
      rw (rank-of p l h, rank-odd 1 p g (var l))
      (by_cases (universal p (var l))
      (λ u. rw u (right-last (var l) (forall-mentioned p (var l) u)))
      (λ u. rw u))

  pub reduced-is : all_of (stays_by (ranks_of p) (last_by (ranks_of p) 0 c)) c ≡ reduced p c
  unfolding reduced
  reduced-is = all-agree small (stays_by (ranks_of p) (last_by (ranks_of p) 0 c)) (stays p c) c s stays-is

  pub reduce-is : reduced_by (ranks_of p) c ≡ reduce p c
  unfolding reduced_by reduce
  reduce-is = keep-agree small (stays_by (ranks_of p) (last_by (ranks_of p) 0 c)) (stays p c) c s stays-is
