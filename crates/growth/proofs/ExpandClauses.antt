-- The raw clauses of step 7, one by one: each keeps all its literals.
-- Assumes nothing.
use mathlib.Core.Path.{◌≡◌, refl, sym, ◌∙◌, ap, subst}
use Prim.Native.Nat.{ℕ, ◌+◌, ◌*◌}
use mathlib.Core.Bool.{Bool, true, false, ◌&&◌, ◌||◌, not, cond}
use mathlib.Core.List.{List, [], ◌∷◌, ◌++◌, map}
use lib.Dec.{eqb}
use Rattle.meaning.specs.Lists.{any_of, keep_if, has, part_of}
use Rattle.meaning.specs.Formula.{var, odd, plain, is_var, mentions, drop_var, existential, universal, right_of, any_exist}
use Rattle.meaning.specs.WellFormed.{good_prefix, reduced, tidy_clause}
use Rattle.meaning.specs.Tidy.{stays}
use Rattle.meaning.proofs.Basics.{by_cases, clash, false_of, and_l, and_r, and_i, or-il, or-ir, or_elim, not-true, eqb-true, eqb-eq, eqb-ne, eqb-sym}
use Rattle.meaning.proofs.Lists.{any_append, any-has, any-witness, any-keep-le, all-has, all-of-has, has-keep}
use Rattle.meaning.proofs.Literals.{plain-is, odd-of-plain, odd-negated}
use Rattle.meaning.proofs.Prefix.{one-kind, drop-other, right-any, forall-mentioned}
use Rattle.meaning.proofs.Clauses.{drop-not}
use Rattle.meaning.proofs.Parts.{reduced-of}
use Rattle.rules.proofs.Rename.{Copies, copies-mention}
use Rattle.growth.proofs.ExpandLists.{part-has, mentions-has, mentions-from, map-from}

-- the universal a of the prefix p, its existentials es, and the numbers fs of their copies
pub record Expands (p : List ℕ) (a : ℕ) (es fs : List ℕ) : Type 0 where
  pub good : good_prefix p ≡ true
  pub forall : universal p a ≡ true
  pub apart : mentions es a ≡ false
  pub copies : Copies es fs
  pub new : (v : ℕ) → has v fs ≡ true → mentions p v ≡ false
  pub touched : (c : List ℕ) → tidy_clause p c ≡ true → mentions c a ≡ true → any_exist es c ≡ true

-- what stands right of another variable
right-drop : (a v : ℕ) (p s : List ℕ) → eqb a v ≡ false → mentions p v ≡ true → right_of v (drop_var a p ++ s) ≡ drop_var a (right_of v p) ++ s
unfolding right_of drop_var keep_if mentions any_of is_var
right-drop a v [] s d m = clash m refl
right-drop a v (q ∷ p) s d m = go (eqb (var q) a) (eqb (var q) v) refl refl m (right-drop a v p s d)
  where
    go : (x y : Bool) → eqb (var q) a ≡ x → eqb (var q) v ≡ y → (y || mentions p v) ≡ true
        → (mentions p v ≡ true → right_of v (drop_var a p ++ s) ≡ drop_var a (right_of v p) ++ s)
        → right_of v (cond (not x) (q ∷ drop_var a p) (drop_var a p) ++ s) ≡ drop_var a (cond y p (right_of v p)) ++ s
    go true true e f n ih = clash (eqb-eq (sym (eqb-true (var q) a e) ∙ eqb-true (var q) v f)) d
    go true false e f n ih = ih n
    go false true e f n ih = rw f
    go false false e f n ih = rw f (ih n)

pub right-has : (q v : ℕ) (p : List ℕ) → has q (right_of v p) ≡ true → has q p ≡ true
unfolding has
right-has q v p h = right-any (λ k. eqb q k) v p h

pub right-exists : (q v a : ℕ) (p : List ℕ) → has q (right_of v p) ≡ true → odd q ≡ false → a ≡ var q → existential p a ≡ true
unfolding existential
right-exists q v a p h e i = subst (λ (k : ℕ). has k p ≡ true) (plain-is q e ∙ ap (λ (u : ℕ). 2 * u) (sym i)) (right-has q v p h)

pub drop-has : (q a : ℕ) (s : List ℕ) → has q s ≡ true → eqb a (var q) ≡ false → has q (drop_var a s) ≡ true
unfolding drop_var is_var
drop-has q a s h d = has-keep (λ k. not (eqb (var k) a)) s q h (ap not (eqb-sym (var q) a ∙ d))

has-drop : (q a : ℕ) (s : List ℕ) → has q (drop_var a s) ≡ true → has q s ≡ true
unfolding has drop_var
has-drop q a s h = any-keep-le _ _ s h

-- in a reduced clause a universal has an existential to its right
old-right : (p c : List ℕ) (l : ℕ) → reduced p c ≡ true → has l c ≡ true → universal p (var l) ≡ true → any_exist (right_of (var l) p) c ≡ true
unfolding reduced stays
old-right p c l r h u = or_elim _ _ (all-has _ c l r h) (λ n. clash u (not-true _ n)) (λ e. e)

copies-exist : (fs : List ℕ) (v : ℕ) → universal (map plain fs) v ≡ false
unfolding universal
copies-exist fs v =
    false_of _ (λ h. let w : (f : ℕ) × (has f fs ≡ true) × (2 * v + 1 ≡ plain f) = map-from plain fs _ h in
    clash (sym (ap odd w.2) ∙ odd-negated v) (odd-of-plain w.0))

drop-forall : (a : ℕ) (p : List ℕ) (v : ℕ) → universal (drop_var a p) v ≡ true → universal p v ≡ true
unfolding universal has drop_var
drop-forall a p v h = any-keep-le _ _ p h

-- an existential right of a place, in a clause
pub right-witness : (s c : List ℕ) → any_exist s c ≡ true → (q : ℕ) × (has q s ≡ true) × (odd q ≡ false) × (mentions c (var q) ≡ true)
unfolding any_exist
right-witness s c h =
    let w : (q : ℕ) × (has q s ≡ true) × ((not (odd q) && mentions c (var q)) ≡ true) = any-witness _ s h in
    (w.0, w.1, not-true _ (and_l _ _ w.2), and_r (not (odd w.0)) _ w.2)

pub exist-of : (s c : List ℕ) (q : ℕ) → has q s ≡ true → odd q ≡ false → mentions c (var q) ≡ true → any_exist s c ≡ true
unfolding any_exist
exist-of s c q h e m = any-has _ s q h (and_i _ _ (ap not e) m)

exist-append : (s t c : List ℕ) → any_exist (s ++ t) c ≡ (any_exist s c || any_exist t c)
unfolding any_exist
exist-append s t c = any_append (λ q. not (odd q) && mentions c (var q)) s t

pub exist-left : (s t c : List ℕ) → any_exist s c ≡ true → any_exist (s ++ t) c ≡ true
exist-left s t c h = exist-append s t c ∙ or-il _ _ h

pub exist-right : (s t c : List ℕ) → any_exist t c ≡ true → any_exist (s ++ t) c ≡ true
exist-right s t c h = exist-append s t c ∙ or-ir (any_exist s c) _ h

pub exist-neither : (s t c : List ℕ) → any_exist s c ≡ false → any_exist t c ≡ false → any_exist (s ++ t) c ≡ false
exist-neither s t c h k = exist-append s t c ∙ rw (h, k)

-- a clause with these literals, and more, has the existential too
pub exist-part : (s c d : List ℕ) → part_of c d ≡ true → any_exist s c ≡ true → any_exist s d ≡ true
exist-part s c d h e =
    let w : (q : ℕ) × (has q s ≡ true) × (odd q ≡ false) × (mentions c (var q) ≡ true) = right-witness s c e in
    let v : (l : ℕ) × (has l c ≡ true) × (var l ≡ var w.0) = mentions-from c _ w.3 in
    exist-of s d w.0 w.1 w.2 (rw v.2 at (mentions-has d v.0 (part-has c d h v.0 v.1)))

pub exist-drop : (a : ℕ) (s c : List ℕ) → mentions s a ≡ false → any_exist s c ≡ true → any_exist s (drop_var a c) ≡ true
exist-drop a s c out h =
    let w : (q : ℕ) × (has q s ≡ true) × (odd q ≡ false) × (mentions c (var q) ≡ true) = right-witness s c h in
    let d : eqb a (var w.0) ≡ false = eqb-ne _ _ (λ (e : a ≡ var w.0). clash (rw (← e) at (mentions-has s w.0 w.1)) out) in
    exist-of s _ w.0 w.1 w.2 (drop-other a _ c d ∙ w.3)

-- a clause over the old prefix has none of the copies
pub exist-none : (fs c : List ℕ) → ((v : ℕ) → has v fs ≡ true → mentions c v ≡ false) → any_exist (map plain fs) c ≡ false
exist-none fs c out =
    false_of _ (λ h. let w : (q : ℕ) × (has q (map plain fs) ≡ true) × (odd q ≡ false) × (mentions c (var q) ≡ true) = right-witness _ c h in
    clash w.3 (out (var w.0) (sym (copies-mention fs _) ∙ mentions-has _ w.0 w.1)))

module _ (p : List ℕ) (a : ℕ) (es fs : List ℕ) (x : Expands p a es fs) where
  abbrev pub new_prefix : List ℕ
  new_prefix = drop_var a p ++ map plain fs

  -- a universal of the new prefix is another universal of the old
  new-forall : (v : ℕ) → universal new_prefix v ≡ true → (universal p v ≡ true) × (eqb a v ≡ false)
  new-forall v h =
      or_elim (universal (drop_var a p) v) (universal (map plain fs) v)
      (unfold universal has in (sym (any_append (λ k. eqb (2 * v + 1) k) (drop_var a p) (map plain fs)) ∙ h))
      (λ i. (drop-forall a p v i, eqb-ne a v (λ e. clash (rw (← e) at (forall-mentioned (drop_var a p) v i)) (drop-not a p))))
      (λ i. clash i (copies-exist fs v))

  -- a tidy clause without a: what stands right of a universal is still there
  still-right : (v : ℕ) (c : List ℕ) → any_exist (right_of v p) c ≡ true → any_exist (drop_var a (right_of v p)) (drop_var a c) ≡ true
  still-right v c h =
      let w : (q : ℕ) × (has q (right_of v p) ≡ true) × (odd q ≡ false) × (mentions c (var q) ≡ true) = right-witness _ c h in
      let other : eqb a (var w.0) ≡ false = eqb-ne _ _ (λ e.
      clash x.forall (one-kind p x.good a (right-exists w.0 v a p w.1 w.2 e))) in
      exist-of _ _ w.0 (drop-has w.0 a _ w.1 other) w.2 (drop-other a _ c other ∙ w.3)

  -- reduced over the new prefix: each universal has an existential of the clause in what stands right of it there
  reduced-by : (c : List ℕ) → ((l : ℕ) → has l c ≡ true → universal p (var l) ≡ true → any_exist (drop_var a (right_of (var l) p) ++ map plain fs) c ≡ true)
      → reduced new_prefix c ≡ true
  unfolding reduced stays
  reduced-by c h =
      all-of-has _ c (λ l i. by_cases (universal new_prefix (var l))
      (λ u. or-ir (not (universal new_prefix (var l))) _ (right l i (new-forall (var l) u)))
      (λ u. or-il _ _ (ap not u)))
    where
      right : (l : ℕ) → has l c ≡ true → (universal p (var l) ≡ true) × (eqb a (var l) ≡ false) → any_exist (right_of (var l) new_prefix) c ≡ true
      right l i u = rw (right-drop a (var l) p (map plain fs) u.1 (forall-mentioned p (var l) u.0)) (h l i u.0)

  -- so is a tidy clause without a, and one with a copy
  pub drop-reduced : (c : List ℕ) → tidy_clause p c ≡ true → reduced new_prefix (drop_var a c) ≡ true
  drop-reduced c t = reduced-by (drop_var a c) (λ l i u. exist-left _ _ _ (still-right (var l) c (old-right p c l (reduced-of p c t) (has-drop l a c i) u)))

  pub copy-reduced : (c : List ℕ) → any_exist (map plain fs) c ≡ true → reduced new_prefix c ≡ true
  copy-reduced c h = reduced-by c (λ l i u. exist-right (drop_var a (right_of (var l) p)) _ c h)
