-- An existential that may not be resolved: the clause and the two variables that are named block it, and are the only ones that the
-- statement allows. Assumes nothing.
use mathlib.Core.Path.{◌≡◌, refl, sym, ◌∙◌, ap, ap₂}
use Prim.Native.Nat.{ℕ, ◌<◌}
use native.Mathlib.Omega.{arith}
use mathlib.Core.Bool.{Bool, true, false, ◌&&◌, ◌||◌, not, cond, false≢true}
use mathlib.Core.List.{List, [], ◌∷◌}
use lib.Dec.{eqb}
use lib.ListN.{length}
use borrow.Author.Tests.{lt-ltb}
use Rattle.meaning.specs.Lists.{all_of, any_of, has, first_passing}
use Rattle.meaning.specs.Formula.{Formula, var, odd, plain, negated, is_var, mentions, existential, right_of}
use Rattle.meaning.specs.WellFormed.{bound, good_prefix, well_formed}
use Rattle.rules.specs.Simplify.{clause_at, is_clause}
use Rattle.rules.specs.Eliminate.{with_lit, from_universal, avoids, near_side, resolve_permitted}
use Rattle.rules.specs.Entry.{resolve}
use Rattle.rules.specs.Step.{permitted}
use Rattle.rules.proofs.Ahead.{left_of}
use Rattle.reasons.specs.Reason.{universal_after, far_part, reaches_far, first_index, far_clause, leftmost_in, far_variable}
use Rattle.reasons.specs.Statement.{Quiet, TooFarRight}
use Rattle.meaning.proofs.Basics.{by_cases, clash, false_of, and_l, and_r, and_i, or_l, or_r, or-il, or-ir, not-true, not-false, eqb-true, eqb-eq}
use Rattle.meaning.proofs.Lists.{all_keep, any_none, all-has, all-of-has, any-witness, first_passes, first-in}
use Rattle.meaning.proofs.Literals.{var-of-plain, var-of-negated, opp-plain}
use Rattle.meaning.proofs.Prefix.{mentioned-all, forall-mentioned}
use Rattle.meaning.proofs.Parts.{good_of, bound_of}
use Rattle.rules.proofs.Permitted.{tidy-at}
use Rattle.rules.proofs.Place.{meet}
use Rattle.rules.proofs.Resolve.{mentions-lits}
use Rattle.reasons.proofs.Places.{same_place, entry-mentioned, Part, longer, part_then, right-part, part-good, part_right, part-side, first-left}
use Rattle.reasons.proofs.Afters.{universal-after, some-universal, universal-is}
use Rattle.reasons.proofs.Indices.{index-finds, index-lowest, any_at, index_is}

-- What kind 6 forbids is a clause that has x and reaches too far ---------------------------------------------------
mentions-x : (x : ℕ) (c : List ℕ) → mentions c x ≡ (has (plain x) c || has (negated x) c)
mentions-x x c = ap (mentions c) (sym (var-of-plain x)) ∙ (mentions-lits c (plain x) ∙ ap (λ (l : ℕ). has (plain x) c || has l c) (opp-plain x))

near-all : (far : List ℕ) (x : ℕ) (cs : List (List ℕ))
    → (all_of (λ c. not (has (plain x) c) || avoids far c) cs && all_of (λ c. not (has (negated x) c) || avoids far c) cs) ≡ not (any_of (reaches_far far x) cs)
unfolding all_of any_of reaches_far
near-all far x [] = refl
near-all far x (c ∷ cs) =
    mix (has (plain x) c) (has (negated x) c) (avoids far c) _ _ _ (near-all far x cs)
    ∙ ap (λ (m : Bool). not ((m && not (avoids far c)) || any_of (reaches_far far x) cs)) (sym (mentions-x x c))
  where
    mix : (a b v A B R : Bool) → (A && B) ≡ not R → (((not a || v) && A) && ((not b || v) && B)) ≡ not (((a || b) && not v) || R)
    mix true true true A B R h = h
    mix true false true A B R h = h
    mix false true true A B R h = h
    mix false false true A B R h = h
    mix true b false A B R h = refl
    mix false true false true B R h = refl
    mix false true false false B R h = refl
    mix false false false A B R h = h

near-clauses : (far : List ℕ) (x : ℕ) (cs : List (List ℕ))
    → (all_of (avoids far) (with_lit (plain x) cs) && all_of (avoids far) (with_lit (negated x) cs)) ≡ not (any_of (reaches_far far x) cs)
unfolding with_lit
near-clauses far x cs = ap₂ ◌&&◌ (all_keep (avoids far) (has (plain x)) cs) (all_keep (avoids far) (has (negated x)) cs) ∙ near-all far x cs

pub permitted-is : (φ : Formula) (x : ℕ) → permitted φ resolve x 0 ≡ (existential φ.prefix x && not (any_of (reaches_far (far_part φ x) x) φ.clauses))
unfolding permitted resolve_permitted near_side far_part
permitted-is φ x = rw (var-of-plain x, var-of-negated x) (ap (λ (b : Bool). existential φ.prefix x && b) (near-clauses (from_universal (right_of x φ.prefix)) x φ.clauses))

-- The part that is too far right -----------------------------------------------------------------------------------
from-head : (s : List ℕ) → any_of odd s ≡ true → (r : List ℕ) × (from_universal s ≡ first_passing odd s ∷ r)
unfolding any_of from_universal first_passing
from-head [] h = absurd (false≢true h)
from-head (q ∷ s) h = go (odd q) h (from-head s)
  where
    go : (t : Bool) → (t || any_of odd s) ≡ true → (any_of odd s ≡ true → (r : List ℕ) × (from_universal s ≡ first_passing odd s ∷ r))
        → (r : List ℕ) × (cond t (q ∷ s) (from_universal s) ≡ cond t q (first_passing odd s) ∷ r)
    go true k ih = (s, refl)
    go false k ih = ih k

from-none : (s : List ℕ) → any_of odd s ≡ false → from_universal s ≡ []
unfolding any_of from_universal
from-none [] h = refl
from-none (q ∷ s) h = rw (or_l (odd q) _ h) (from-none s (or_r (odd q) _ h))

from-part : (s : List ℕ) → Part s (from_universal s)
unfolding from_universal
from-part [] = record { left = []; whole = refl }
from-part (q ∷ s) = go (odd q) (from-part s)
  where
    go : (t : Bool) → Part s (from_universal s) → Part (q ∷ s) (cond t (q ∷ s) (from_universal s))
    go true k = record { left = []; whole = refl }
    go false k = longer q s (from_universal s) k

far-part : (φ : Formula) (x : ℕ) → Part φ.prefix (far_part φ x)
unfolding far_part
far-part φ x = part_then _ _ _ (right-part x φ.prefix) (from-part (right_of x φ.prefix))

-- a clause does not avoid a part: some entry of the part is of a variable of the clause
reach : (s c : List ℕ) → avoids s c ≡ false → any_of (λ q. mentions c (var q)) s ≡ true
unfolding avoids
reach s c h = by_cases (any_of (λ l. mentions s (var l)) c) (λ e. meet c s e) (λ e. clash (any_none _ c e) h)

reached : (s c : List ℕ) (z : ℕ) → mentions c z ≡ true → mentions s z ≡ true → avoids s c ≡ false
unfolding avoids mentions is_var
reached s c z h k =
    let l : (l : ℕ) × (has l c ≡ true) × (eqb (var l) z ≡ true) = any-witness _ c h in
    false_of _ (λ e. clash k (rw (eqb-true (var l.0) z l.2) at (not-true (mentions s (var l.0)) (all-has _ c l.0 e l.1))))

reaches_of : (s : List ℕ) (x : ℕ) (c : List ℕ) (z : ℕ) → mentions c x ≡ true → mentions c z ≡ true → mentions s z ≡ true → reaches_far s x c ≡ true
unfolding reaches_far
reaches_of s x c z h i k = and_i _ _ h (ap not (reached s c z i k))

reaches-x : (s : List ℕ) (x : ℕ) (c : List ℕ) → reaches_far s x c ≡ true → mentions c x ≡ true
unfolding reaches_far
reaches-x s x c h = and_l (mentions c x) _ h

avoids-none : (c : List ℕ) → avoids [] c ≡ true
unfolding avoids
avoids-none c = all-of-has _ c (λ l h. unfold mentions any_of in refl)

module _ (φ : Formula) (w : well_formed φ ≡ true) (x : ℕ) where
  -- the variables of the part are those that do not stand left of the first universal right of x
  far-side : any_of odd (right_of x φ.prefix) ≡ true → (z : ℕ) → mentions φ.prefix z ≡ true → mentions (far_part φ x) z ≡ not (left_of φ z (universal_after φ x))
  unfolding universal_after left_of far_part
  far-side some z m =
      let h : (r : List ℕ) × (from_universal (right_of x φ.prefix) ≡ first_passing odd (right_of x φ.prefix) ∷ r) = from-head (right_of x φ.prefix) some in
      let k : Part φ.prefix (from_universal (right_of x φ.prefix)) = far-part φ x in
      rw h.1 (part-side φ.prefix _ h.0 (good_of φ w) (rw h.1 at k) z m)

  -- a clause that reaches it has a universal right of x to reach for
  far_some : (c : List ℕ) → reaches_far (far_part φ x) x c ≡ true → any_of odd (right_of x φ.prefix) ≡ true
  unfolding reaches_far far_part
  far_some c h =
      by_cases (any_of odd (right_of x φ.prefix))
      (λ e. e)
      (λ e. clash (ap (λ (s : List ℕ). avoids s c) (from-none (right_of x φ.prefix) e) ∙ avoids-none c) (not-true _ (and_r (mentions c x) _ h)))

  -- of a clause of the formula: all its variables are in the prefix
  clause-bound : (i z : ℕ) → i < length φ.clauses → mentions (clause_at φ.clauses i) z ≡ true → mentions φ.prefix z ≡ true
  unfolding bound is_clause
  clause-bound i z h m = mentioned-all (mentions φ.prefix) (clause_at φ.clauses i) z (bound_of φ.prefix _ (tidy-at φ w i (lt-ltb i _ h))) m

  -- The leftmost such variable of a clause that reaches too far ------------------------------------------------------
  module _ (i : ℕ) (h : i < length φ.clauses) (r : reaches_far (far_part φ x) x (clause_at φ.clauses i) ≡ true) where
    met : any_of (λ q. mentions (clause_at φ.clauses i) (var q)) (far_part φ x) ≡ true
    unfolding reaches_far
    met = reach (far_part φ x) (clause_at φ.clauses i) (not-true _ (and_r (mentions (clause_at φ.clauses i) x) _ r))

    left-has : mentions (clause_at φ.clauses i) (leftmost_in (far_part φ x) (clause_at φ.clauses i)) ≡ true
    unfolding leftmost_in
    left-has = first_passes (λ q. mentions (clause_at φ.clauses i) (var q)) (far_part φ x) met

    left_in : mentions (far_part φ x) (leftmost_in (far_part φ x) (clause_at φ.clauses i)) ≡ true
    unfolding leftmost_in
    left_in = entry-mentioned _ _ (first-in (λ q. mentions (clause_at φ.clauses i) (var q)) (far_part φ x) met)

    left_far : left_of φ (leftmost_in (far_part φ x) (clause_at φ.clauses i)) (universal_after φ x) ≡ false
    left_far = not-true _ (sym (far-side (far_some _ r) _ (clause-bound i _ h left-has)) ∙ left_in)

    left-first : (z : ℕ) → mentions (clause_at φ.clauses i) z ≡ true → left_of φ z (universal_after φ x) ≡ false
        → left_of φ z (leftmost_in (far_part φ x) (clause_at φ.clauses i)) ≡ false
    unfolding left_of leftmost_in mentions is_var
    left-first z m k =
        let inside : any_of (λ q. eqb (var q) z) (far_part φ x) ≡ true = far-side (far_some _ r) z (clause-bound i z h m) ∙ ap not k in
        let e : (q : ℕ) × (has q (far_part φ x) ≡ true) × (eqb (var q) z ≡ true) = any-witness _ (far_part φ x) inside in
        let v : var e.0 ≡ z = eqb-true (var e.0) z e.2 in
        let g : good_prefix (far_part φ x) ≡ true = part-good _ _ (good_of φ w) (far-part φ x) in
        rw (part_right φ.prefix (far_part φ x) (good_of φ w) (far-part φ x) z inside, ← v)
        (first-left (λ q. mentions (clause_at φ.clauses i) (var q)) (far_part φ x) g e.0 e.1 (rw v m))

  -- The statement, and that nothing else satisfies it -----------------------------------------------------------------
  pub far-true : Quiet φ → existential φ.prefix x ≡ true → permitted φ resolve x 0 ≡ false
      → TooFarRight φ x (far_clause φ x) (far_variable φ x) (universal_after φ x)
  unfolding far_clause far_variable
  far-true quiet e n =
      record {
        quiet = quiet;
        exists = e;
        first-universal = universal-after φ w x some;
        there = at.0;
        has-x = reaches-x _ x _ at.1;
        has-y = left-has i at.0 at.1;
        far = left_far i at.0 at.1;
        lowest = lower;
        leftmost = left-first i at.0 at.1;
      }
    where
      i : ℕ
      i = first_index (reaches_far (far_part φ x) x) φ.clauses

      any : any_of (reaches_far (far_part φ x) x) φ.clauses ≡ true
      any = not-false _ (sym (permitted-is φ x ∙ ap (λ (b : Bool). b && not (any_of (reaches_far (far_part φ x) x) φ.clauses)) e) ∙ n)

      at : (i < length φ.clauses) × (reaches_far (far_part φ x) x (clause_at φ.clauses i) ≡ true)
      at = index-finds (reaches_far (far_part φ x) x) φ.clauses any

      some : any_of odd (right_of x φ.prefix) ≡ true
      some = far_some _ at.1

      lower : (j z : ℕ) → j < i → mentions (clause_at φ.clauses j) x ≡ true → mentions (clause_at φ.clauses j) z ≡ true → left_of φ z (universal_after φ x) ≡ true
      lower j z l hx hz =
          by_cases (left_of φ z (universal_after φ x))
          (λ e. e)
          (λ e. clash (reaches_of _ x _ z hx hz (far-side some z (clause-bound j z (omega (arith, at.0)) hz) ∙ ap not e)) (index-lowest (reaches_far (far_part φ x) x) φ.clauses j l))

  pub record OnlyFar (i y u : ℕ) : Type 0 where
    pub forbidden : permitted φ resolve x 0 ≡ false
    pub clause : far_clause φ x ≡ i
    pub variable : far_variable φ x ≡ y
    pub universal : universal_after φ x ≡ u

  pub far-only : (i y u : ℕ) → TooFarRight φ x i y u → OnlyFar i y u
  far-only i y u s =
      record {
        forbidden = permitted-is φ x ∙ rw (any_at (reaches_far (far_part φ x) x) φ.clauses i s.there reaches) (and-false (existential φ.prefix x));
        clause = clause;
        variable = variable;
        universal = u-is;
      }
    where
      u-is : universal_after φ x ≡ u
      u-is = universal-is φ w x u s.first-universal

      some : any_of odd (right_of x φ.prefix) ≡ true
      some = some-universal φ w x u s.first-universal

      side : (z : ℕ) → mentions φ.prefix z ≡ true → mentions (far_part φ x) z ≡ not (left_of φ z u)
      side z m = rw u-is at (far-side some z m)

      reaches : reaches_far (far_part φ x) x (clause_at φ.clauses i) ≡ true
      reaches = reaches_of _ x _ y s.has-x s.has-y (side y (clause-bound i y s.there s.has-y) ∙ ap not s.far)

      lower : (j : ℕ) → j < i → reaches_far (far_part φ x) x (clause_at φ.clauses j) ≡ false
      lower j l =
          false_of _
          (λ h. let below : j < length φ.clauses = omega (arith, s.there) in
          let hx : mentions (clause_at φ.clauses j) x ≡ true = reaches-x _ x _ h in
          let hz = left-has j below h in
          let far = left_far j below h in
          clash (s.lowest j _ l hx hz) (rw u-is at far))

      clause : far_clause φ x ≡ i
      clause = unfold far_clause in index_is (reaches_far (far_part φ x) x) φ.clauses i s.there reaches lower

      -- neither stands left of the other
      variable : far_variable φ x ≡ y
      variable = unfold far_variable in (ap (λ (j : ℕ). leftmost_in (far_part φ x) (clause_at φ.clauses j)) clause ∙ same)
        where
          same : leftmost_in (far_part φ x) (clause_at φ.clauses i) ≡ y
          same =
              unfold left_of in same_place φ.prefix (leftmost_in (far_part φ x) (clause_at φ.clauses i)) y
              (clause-bound i _ s.there (left-has i s.there reaches))
              (clause-bound i y s.there s.has-y)
              (s.leftmost _ (left-has i s.there reaches) (rw u-is at (left_far i s.there reaches)))
              (left-first i s.there reaches y s.has-y (ap (left_of φ y) u-is ∙ s.far))

      and-false : (b : Bool) → (b && false) ≡ false
      and-false true = refl
      and-false false = refl

  -- in words that say where y stands: it is u, or right of it
  pub far-stands : (i y u : ℕ) → TooFarRight φ x i y u → (eqb y u || left_of φ u y) ≡ true
  unfolding left_of
  far-stands i y u s =
      by_cases (mentions (right_of u φ.prefix) y)
      (λ h. or-ir (eqb y u) _ h)
      (λ h. or-il _ _ (eqb-eq (same_place φ.prefix y u (clause-bound i y s.there s.has-y) (forall-mentioned φ.prefix u s.first-universal.forall) s.far h)))
