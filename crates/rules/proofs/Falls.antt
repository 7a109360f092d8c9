-- Kinds 1 to 5 lower the weight. Assumes nothing.
use mathlib.Core.Path.{◌≡◌, refl, ◌∙◌, ap}
use Prim.Native.Nat.{ℕ, zero, suc, ◌+◌, ◌<◌, ◌≤◌}
use native.Mathlib.Omega.{arith}
use mathlib.Core.Bool.{Bool, true, false, ◌||◌, not, cond, false≢true}
use mathlib.Core.List.{List, [], ◌∷◌, ◌++◌, map}
use lib.Dec.{eqb}
use lib.ListN.{length, length-append}
use Rattle.meaning.specs.Lists.{any_of, keep_if, has, without}
use Rattle.meaning.specs.Formula.{Formula, var, odd, opposite, mentions, drop_var, plain}
use Rattle.meaning.specs.WellFormed.{good_prefix, well_formed, literals, weight, universals}
use Rattle.meaning.specs.Tidy.{tidied}
use Rattle.rules.specs.Simplify.{clause_at, is_clause, becomes_true, unit_permitted, unit_raw, pure_permitted, pure_raw, subsume_permitted, replace_at, subsume_raw, strengthen_permitted, strengthen_lit, strengthen_raw, equality_permitted, replaced, equality_raw}
use Rattle.rules.specs.Eliminate.{expand_permitted, inner, fresh, expand_with, expand_raw}
use Rattle.meaning.proofs.Literals.{odd-of-plain}
use Rattle.meaning.proofs.Weight.{keep-length, literals-append, size, tidied-weight}
use Rattle.rules.proofs.Place.{Place, place, forall-place}
use Rattle.meaning.proofs.Parts.{good_of}
use Rattle.rules.proofs.Permitted.{UnitSays, unit-says, tidy-unit, pure-says, there-none, there-later, subsume-says, StrengthenSays, strengthen-says, expand-says, pure-becomes, Replaces, equality-replaces}
use Rattle.rules.proofs.Room.{Smaller, becomes-smaller, replaced-smaller}

-- a variable of the prefix dropped: one entry less
drop-length : (p : List ℕ) (v : ℕ) → good_prefix p ≡ true → mentions p v ≡ true → suc (length (drop_var v p)) ≡ length p
drop-length p v good h =
    let at : Place p v = place p v good h in
    let x : length (drop_var v p) ≡ length (at.left ++ at.right) = ap length at.rest in
    let y : length p ≡ length (at.left ++ (at.entry ∷ at.right)) = ap length at.whole in
    omega (arith, length-append at.left at.right, length-append at.left (at.entry ∷ at.right))

pub becomes-falls : (φ : Formula) → well_formed φ ≡ true → (l : ℕ) → mentions φ.prefix (var l) ≡ true → weight (becomes_true l φ) < weight φ
unfolding weight
becomes-falls φ w l h = let s : Smaller φ (becomes_true l φ) = becomes-smaller φ l in unfold becomes_true in omega (arith, drop-length _ (var l) (good_of φ w) h)

pub unit-falls : (φ : Formula) → well_formed φ ≡ true → (a : ℕ) → unit_permitted φ a ≡ true → weight (unit_raw φ a) < weight φ
unfolding unit_raw
unit-falls φ w a h = let s : UnitSays φ a = unit-says φ a h in rw s.is (becomes-falls φ w s.lit (tidy-unit φ w a s).inside)

pub pure-falls : (φ : Formula) → well_formed φ ≡ true → (a : ℕ) → pure_permitted φ a ≡ true → weight (pure_raw φ a) < weight φ
pure-falls φ w a h =
    let b : (l : ℕ) × (var l ≡ a) × (pure_raw φ a ≡ becomes_true l φ) = pure-becomes φ a in
    rw b.2 (becomes-falls φ w b.0 (rw b.1 (pure-says φ a h).inside))

-- one clause replaced: what it weighed is exchanged
replace-size : (cs : List (List ℕ)) (b : ℕ) (new : List (List ℕ)) → is_clause cs b ≡ true
    → size (replace_at cs b new) + suc (length (clause_at cs b)) ≡ size cs + size new
unfolding replace_at literals clause_at
replace-size [] b new i = there-none b i
replace-size (c ∷ cs) zero new i = omega (arith, length-append new cs, literals-append new cs)
replace-size (c ∷ cs) (suc b) new i = omega (arith, replace-size cs b new (there-later c cs b i))

pub subsume-falls : (φ : Formula) (a b : ℕ) → subsume_permitted φ a b ≡ true → weight (subsume_raw φ b) < weight φ
unfolding weight subsume_raw literals
subsume-falls φ a b h = omega (arith, replace-size _ b [] (subsume-says φ a b h).there-b)

without-shorter : (l : ℕ) (c : List ℕ) → has l c ≡ true → suc (length (without l c)) ≤ length c
unfolding has any_of without keep_if
without-shorter l [] h = absurd (false≢true h)
without-shorter l (k ∷ c) h = go (eqb l k) h (without-shorter l c)
  where
    go : (s : Bool) → (s || any_of (λ y. eqb l y) c) ≡ true → (any_of (λ y. eqb l y) c ≡ true → suc (length (keep_if (λ y. not (eqb l y)) c)) ≤ length c)
        → suc (length (cond (not s) (k ∷ keep_if (λ y. not (eqb l y)) c) (keep_if (λ y. not (eqb l y)) c))) ≤ suc (length c)
    go true x ih = omega (arith, keep-length (λ y. not (eqb l y)) c)
    go false x ih = omega (arith, ih x)

pub strengthen-falls : (φ : Formula) (a b : ℕ) → strengthen_permitted φ a b ≡ true → weight (strengthen_raw φ a b) < weight φ
unfolding weight strengthen_raw literals
strengthen-falls φ a b h =
    let l : ℕ = strengthen_lit φ a b in
    let d : List ℕ = clause_at φ.clauses b in
    let s : StrengthenSays φ a b l = strengthen-says φ a b h in
    omega (arith, replace-size _ b (without (opposite l) d ∷ []) s.there-b, without-shorter (opposite l) d s.opp-in-b)

replaced-falls : (φ : Formula) → well_formed φ ≡ true → (k l : ℕ) → mentions φ.prefix (var k) ≡ true → weight (replaced k l φ) < weight φ
unfolding weight
replaced-falls φ w k l h = let s : Smaller φ (replaced k l φ) = replaced-smaller φ k l in unfold replaced in omega (arith, drop-length _ (var k) (good_of φ w) h)

pub equality-falls : (φ : Formula) → well_formed φ ≡ true → (a b : ℕ) → equality_permitted φ a b ≡ true → weight (equality_raw φ a) < weight φ
equality-falls φ w a b h = let r : Replaces φ (equality_raw φ a) = equality-replaces φ w a b h in rw r.is (replaced-falls φ w r.old r.new r.old-in)

-- and what is tidied weighs no more
pub tidied-falls : (φ r : Formula) → weight r < weight φ → weight (tidied r) < weight φ
tidied-falls φ r h = omega (arith, tidied-weight r)

-- Expand drops a universal -------------------------------------------------------------------------------------
universals-append : (x y : List ℕ) → universals (x ++ y) ≡ universals x + universals y
unfolding universals keep_if
universals-append [] y = omega arith
universals-append (q ∷ x) y = go (odd q) (universals-append x y)
  where
    go : (s : Bool) → universals (x ++ y) ≡ universals x + universals y
        → length (cond s (q ∷ keep_if odd (x ++ y)) (keep_if odd (x ++ y))) ≡ length (cond s (q ∷ keep_if odd x) (keep_if odd x)) + universals y
    go true e = omega arith
    go false e = e

universals-head : (q : ℕ) (p : List ℕ) → odd q ≡ true → universals (q ∷ p) ≡ suc (universals p)
unfolding universals keep_if
universals-head q p o = rw o

copies-exist : (fs : List ℕ) → universals (map plain fs) ≡ 0
unfolding universals keep_if
copies-exist [] = refl
copies-exist (f ∷ fs) = rw (odd-of-plain f) (copies-exist fs)

pub universals-expand : (φ : Formula) → well_formed φ ≡ true → (a : ℕ) → expand_permitted φ a ≡ true
    → suc (universals (expand_raw φ a).prefix) ≡ universals φ.prefix
unfolding expand_raw expand_with
universals-expand φ w a h =
    let k : (at : Place φ.prefix a) × (odd at.entry ≡ true) = forall-place φ w a (expand-says φ a h).forall in
    let at : Place φ.prefix a = k.0 in
    let fs : List ℕ = fresh φ.prefix (length (inner a φ.prefix)) in
    let one : universals (at.entry ∷ at.right) ≡ suc (universals at.right) = universals-head at.entry at.right k.1 in
    let old : universals φ.prefix ≡ universals at.left + universals (at.entry ∷ at.right) = ap universals at.whole ∙ universals-append _ _ in
    let new : universals (drop_var a φ.prefix) ≡ universals at.left + universals at.right = ap universals at.rest ∙ universals-append _ _ in
    omega (arith, universals-append (drop_var a φ.prefix) (map plain fs), copies-exist fs)
