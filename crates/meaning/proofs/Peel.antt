-- Universal reduction, one entry of the prefix after the other from the right: a device for proofs by recursion over the
-- prefix. Over a good prefix it is the literal-by-literal reduction of document 01. Assumes nothing.
use mathlib.Core.Path.{◌≡◌, refl, sym, ◌∙◌, ap, ap₂, subst}
use Prim.Native.Nat.{ℕ}
use mathlib.Core.Bool.{Bool, true, false, ◌&&◌, ◌||◌, not, cond, true≢false, false≢true}
use mathlib.Core.List.{List, [], ◌∷◌}
use lib.Dec.{eqb}
use Rattle.meaning.specs.Lists.{all_of, any_of, keep_if, has}
use Rattle.meaning.specs.Formula.{var, odd, is_var, mentions, drop_var, universal, any_exist, right_of}
use Rattle.meaning.specs.Tidy.{stays, reduce}
use Rattle.meaning.specs.WellFormed.{good_prefix}
use Rattle.meaning.proofs.Basics.{by_cases, clash, false_of, and_l, and_r, or_l, or_r, or_elim, not-true, or-false, eqb-true, eqb-sym}
use Rattle.meaning.proofs.Lists.{any-keep-le, keep_all, keep-twice, keep_same}
use Rattle.meaning.proofs.Clauses.{drop-not, drop-still-not}
use Rattle.meaning.proofs.Prefix.{good-out, good-tail, eqb-negated, not-universal}

unfoldable pub peel : List ℕ → List ℕ → List ℕ
peel [] c = c
peel (q ∷ p) c = cond (odd q && not (any_exist p c)) (drop_var (var q) (peel p c)) (peel p c)

pub peel-hit : (q : ℕ) (p c : List ℕ) → odd q ≡ true → any_exist p c ≡ false → peel (q ∷ p) c ≡ drop_var (var q) (peel p c)
unfolding peel
peel-hit q p c o e = rw (o, e)

pub peel-miss : (q : ℕ) (p c : List ℕ) → (odd q && not (any_exist p c)) ≡ false → peel (q ∷ p) c ≡ peel p c
unfolding peel
peel-miss q p c e = rw e

-- what is left is of the clause
pub peel-le : (f : ℕ → Bool) (p c : List ℕ) → any_of f (peel p c) ≡ true → any_of f c ≡ true
unfolding peel drop_var
peel-le f [] c h = h
peel-le f (q ∷ p) c h = peel-le f p c (go (odd q && not (any_exist p c)) h)
  where
    go : (s : Bool) → any_of f (cond s (keep_if (λ k. not (is_var (var q) k)) (peel p c)) (peel p c)) ≡ true → any_of f (peel p c) ≡ true
    go true k = any-keep-le f (λ k. not (is_var (var q) k)) (peel p c) k
    go false k = k

peel-not : (p c : List ℕ) (v : ℕ) → mentions c v ≡ false → mentions (peel p c) v ≡ false
unfolding mentions
peel-not p c v out = false_of (any_of (is_var v) (peel p c)) (λ h. clash (peel-le (is_var v) p c h) out)

-- where no existential of the clause stands in this part of the prefix, nothing of the clause is left that does
pub peel-out : (p c : List ℕ) → any_exist p c ≡ false → (v : ℕ) → mentions p v ≡ true → mentions (peel p c) v ≡ false
unfolding any_exist mentions any_of is_var
peel-out [] c none v h = absurd (false≢true h)
peel-out (q ∷ p) c none v h =
    by_cases (odd q)
    (λ o. ap (λ (d : List ℕ). mentions d v) (peel-hit q p c o later)
    ∙ or_elim (eqb (var q) v) (mentions p v) h
    (λ e. subst (λ (w : ℕ). mentions (drop_var (var q) (peel p c)) w ≡ false) (eqb-true (var q) v e) (drop-not (var q) (peel p c)))
    (λ e. drop-still-not (var q) v (peel p c) (peel-out p c later v e)))
    (λ o. ap (λ (d : List ℕ). mentions d v) (peel-miss q p c (ap (λ (b : Bool). b && not (any_exist p c)) o))
    ∙ or_elim (eqb (var q) v) (mentions p v) h
    (λ e. subst (λ (w : ℕ). mentions (peel p c) w ≡ false) (eqb-true (var q) v e)
    (peel-not p c (var q) (subst (λ (b : Bool). (not b && mentions c (var q)) ≡ false) o (or_l (not (odd q) && mentions c (var q)) (any_exist p c) none))))
    (λ e. peel-out p c later v e))
  where
    later : any_exist p c ≡ false
    later = or_r (not (odd q) && mentions c (var q)) (any_exist p c) none

-- Literal by literal -----------------------------------------------------------------------------------------
-- the literal is of the first entry's variable; it is of no entry's; it is of a later one's
stays_here : (q : ℕ) (p c : List ℕ) (l : ℕ) → good_prefix (q ∷ p) ≡ true → eqb (var q) (var l) ≡ true → stays (q ∷ p) c l ≡ (not (odd q) || any_exist p c)
unfolding stays universal has any_of right_of is_var
stays_here q p c l good e =
    ap₂ (λ (x y : Bool). not (x || y) || any_exist (cond (eqb (var q) (var l)) p (right_of (var l) p)) c) (eqb-negated (var l) q ∙ ap (λ (b : Bool). b && odd q) e) (not-universal p (var l) (subst (λ (v : ℕ). mentions p v ≡ false) (eqb-true (var q) (var l) e) (good-out q p good)))
    ∙ ap₂ (λ (x y : Bool). not x || any_exist (cond y p (right_of (var l) p)) c) (or-false (odd q)) e

stays-beside : (p c : List ℕ) (l : ℕ) → mentions p (var l) ≡ false → stays p c l ≡ true
unfolding stays
stays-beside p c l out = ap (λ (b : Bool). not b || any_exist (right_of (var l) p) c) (not-universal p (var l) out)

stays-there : (q : ℕ) (p c : List ℕ) (l : ℕ) → eqb (var q) (var l) ≡ false → stays (q ∷ p) c l ≡ stays p c l
unfolding stays universal has any_of right_of is_var
stays-there q p c l e =
    ap₂ (λ (x y : Bool). not (x || universal p (var l)) || any_exist (cond y p (right_of (var l) p)) c) (eqb-negated (var l) q ∙ ap (λ (b : Bool). b && odd q) e) e

all_stay : (c d : List ℕ) → all_of (stays [] d) c ≡ true
unfolding all_of stays universal has any_of
all_stay [] d = refl
all_stay (l ∷ c) d = all_stay c d

pub reduce-peel : (p c : List ℕ) → good_prefix p ≡ true → reduce p c ≡ peel p c
unfolding reduce
reduce-peel [] c good = unfold peel in keep_all (stays [] c) c (all_stay c c)
reduce-peel (q ∷ p) c good =
    by_cases (odd q && not (any_exist p c))
    (λ h. sym (peel-hit q p c (and_l (odd q) (not (any_exist p c)) h) (search (and_r, not-true))
    ∙ (ap (drop_var (var q)) (sym (reduce-peel p c (good-tail q p good))) ∙ drop-stays (hit h))))
    (λ h. sym (peel-miss q p c h ∙ (sym (reduce-peel p c (good-tail q p good)) ∙ keep_same (stays p c) (stays (q ∷ p) c) c (miss h))))
  where
    drop-stays : ((l : ℕ) → (not (eqb (var l) (var q)) && stays p c l) ≡ stays (q ∷ p) c l)
        → drop_var (var q) (keep_if (stays p c) c) ≡ keep_if (stays (q ∷ p) c) c
    drop-stays h = unfold drop_var is_var in keep-twice (λ k. not (eqb (var k) (var q))) (stays p c) (stays (q ∷ p) c) h c

    gone : (s t : Bool) → (s && not t) ≡ true → (not s || t) ≡ false
    gone true true h = absurd (false≢true h)
    gone true false h = refl
    gone false t h = absurd (false≢true h)

    left : (s t : Bool) → (s && not t) ≡ false → (not s || t) ≡ true
    left true true h = refl
    left true false h = absurd (true≢false h)
    left false t h = refl

    hit : (odd q && not (any_exist p c)) ≡ true → (l : ℕ) → (not (eqb (var l) (var q)) && stays p c l) ≡ stays (q ∷ p) c l
    hit h l =
        by_cases (eqb (var q) (var l))
        (λ e. ap (λ (b : Bool). not b && stays p c l) (eqb-sym (var l) (var q) ∙ e) ∙ sym (stays_here q p c l good e ∙ gone (odd q) (any_exist p c) h))
        (λ e. ap (λ (b : Bool). not b && stays p c l) (eqb-sym (var l) (var q) ∙ e) ∙ sym (stays-there q p c l e))

    miss : (odd q && not (any_exist p c)) ≡ false → (l : ℕ) → stays p c l ≡ stays (q ∷ p) c l
    miss h l =
        by_cases (eqb (var q) (var l))
        (λ e. stays-beside p c l (subst (λ (v : ℕ). mentions p v ≡ false) (eqb-true (var q) (var l) e) (good-out q p good)) ∙ sym (stays_here q p c l good e ∙ left (odd q) (any_exist p c) h))
        (λ e. sym (stays-there q p c l e))
