-- Steps 6 and 7, resolve and expand: their conditions by places.
-- Assumes nothing.
use Prim.Native.Nat.{ℕ, ◌<◌}
use mathlib.Core.Path.{◌≡◌, refl, sym, ap, ◌∙◌}
use mathlib.Core.Bool.{Bool, true, false, ◌&&◌, ◌||◌, not}
use mathlib.Core.List.{List}
use lib.ListN.{drop}
use lib.Dec.{ltb, leb}
use borrow.Author.Tests.{le-leb, lt-leb, ltb-true, ltb-false}
use Rattle.meaning.specs.Lists.{all_of, keep_if, has}
use Rattle.meaning.specs.Formula.{Formula, var, plain, negated, mentions, existential, universal, right_of}
use Rattle.meaning.specs.WellFormed.{well_formed, good_prefix, bound}
use Rattle.table.specs.Ranks.{good_entries}
use Rattle.rules.specs.Eliminate.{with_lit, from_universal, avoids, near_side, resolve_permitted, universals_first, expand_permitted}
use Rattle.permits.specs.Places.{place_of, within, near, side_within}
use Rattle.meaning.proofs.Basics.{by_cases}
use Rattle.meaning.proofs.Lists.{all_keep, all-agree}
use Rattle.meaning.proofs.Literals.{var-of-plain, var-of-negated}
use Rattle.meaning.proofs.Prefix.{exists-mentioned, forall-mentioned, not-existential}
use Rattle.meaning.proofs.Parts.{good_of, bound_all}
use Rattle.permits.proofs.AndLaws.{and_none}
use Rattle.permits.proofs.PlaceLaws.{large-out, place-right, behind}

-- A clause that has the literal, and one that has it not --------------------------------------------------------
module _ (p x : List ℕ) (l n : ℕ) (t : Bool) (is : t ≡ has l x) where
  pub near-has : t ≡ true → (r : Bool) → r ≡ within p n x → r ≡ near p l n x
  unfolding near
  near-has e r q = rw (← is, e) q

  pub near-not : t ≡ false → true ≡ near p l n x
  unfolding near
  near-not e = rw (← is, e)

-- What stands behind n entries is avoided exactly by the clauses within n ----------------------------------------
pub not_behind : (n m : ℕ) → not (ltb n m) ≡ leb m n
not_behind n m =
    by_cases (ltb n m)
    (λ t. ap not t ∙ sym (lt-leb m n (ltb-true n m t)))
    (λ t. ap not t ∙ sym (le-leb m n (ltb-false n m t)))

avoids-within : (p c : List ℕ) (n : ℕ) → good_prefix p ≡ true → bound p c ≡ true → avoids (drop n p) c ≡ within p n c
unfolding avoids within bound
avoids-within p c n g b =
    all-agree (λ l. mentions p (var l)) (λ l. not (mentions (drop n p) (var l))) (λ l. leb (place_of p (var l)) n) c b
    (λ l m. ap not (behind n p (var l) g m) ∙ not_behind n (place_of p (var l)))

side-is : (φ : Formula) → well_formed φ ≡ true → (l n : ℕ) → from_universal (right_of (var l) φ.prefix) ≡ drop n φ.prefix → near_side φ l ≡ side_within φ l n
unfolding near_side with_lit side_within near
side-is φ w l n e =
    let p = φ.prefix in
    ap (λ (q : List ℕ). all_of (avoids q) (keep_if (has l) φ.clauses)) e
    ∙ all_keep (avoids (drop n p)) (has l) φ.clauses
    ∙ all-agree (bound p) (λ c. not (has l c) || avoids (drop n p) c) (near p l n) φ.clauses (bound_all φ w)
    (λ c b. ap (λ (t : Bool). not (has l c) || t) (avoids-within p c n (good_of φ w) b))

-- The conditions ------------------------------------------------------------------------------------------------
pub resolve-large : (φ : Formula) (a : ℕ) → good_entries φ.prefix ≡ true → 1023 < a → false ≡ resolve_permitted φ a
unfolding resolve_permitted
resolve-large φ a g h = and_none (existential φ.prefix a) (near_side φ (plain a) && near_side φ (negated a)) false (sym (not-existential φ.prefix a (large-out φ.prefix a g h))) refl

module _ (φ : Formula) (w : well_formed φ ≡ true) (a m : ℕ) (at : m ≡ place_of φ.prefix a) (p : List ℕ) (is-p : p ≡ φ.prefix) (e : Bool) where
  right-part : mentions φ.prefix a ≡ true → drop m p ≡ right_of a φ.prefix
  right-part k = rw (at, is-p) (place-right φ.prefix a k)

  pub resolve-is : e ≡ existential φ.prefix a → e ≡ true → (n : ℕ) → from_universal (drop m p) ≡ drop n p → (r : Bool) → r ≡ (side_within φ (plain a) n && side_within φ (negated a) n) → r ≡ resolve_permitted φ a
  unfolding resolve_permitted
  resolve-is is t n f r q =
      let k = exists-mentioned φ.prefix a (sym is ∙ t) in
      let g : from_universal (right_of a φ.prefix) ≡ drop n φ.prefix = ap from_universal (sym (right-part k)) ∙ f ∙ ap (drop n) is-p in
      let gp : from_universal (right_of (var (plain a)) φ.prefix) ≡ drop n φ.prefix = rw var-of-plain g in
      let gn : from_universal (right_of (var (negated a)) φ.prefix) ≡ drop n φ.prefix = rw var-of-negated g in
      rw (← is, t, side-is φ w (plain a) n gp, side-is φ w (negated a) n gn) q

  pub expand-is : e ≡ universal φ.prefix a → e ≡ true → (r : Bool) → r ≡ universals_first (drop m p) → r ≡ expand_permitted φ a
  unfolding expand_permitted
  expand-is is t r q =
      let k = forall-mentioned φ.prefix a (sym is ∙ t) in
      rw (← is, t) (q ∙ ap universals_first (right-part k))
