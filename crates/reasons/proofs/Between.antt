-- A universal that may not be expanded: the existential and the universal that are named block it, and are the only ones that the
-- statement allows. Assumes nothing.
use mathlib.Core.Path.{◌≡◌, refl, ◌∙◌, ap}
use Prim.Native.Nat.{ℕ, ◌*◌}
use mathlib.Core.Bool.{Bool, true, false, ◌||◌, not, cond, true≢false, false≢true}
use mathlib.Core.List.{List, [], ◌∷◌}
use lib.Dec.{eqb}
use Rattle.meaning.specs.Lists.{any_of, has, first_passing}
use Rattle.meaning.specs.Formula.{Formula, var, odd, is_var, existential, universal, right_of}
use Rattle.meaning.specs.WellFormed.{good_prefix, well_formed}
use Rattle.rules.specs.Eliminate.{all_exist, universals_first, expand_permitted}
use Rattle.rules.specs.Entry.{expand}
use Rattle.rules.specs.Step.{permitted}
use Rattle.rules.proofs.Ahead.{left_of}
use Rattle.reasons.specs.Reason.{universal_after, existential_after}
use Rattle.reasons.specs.Statement.{Quiet, LeftmostExistential, Between}
use Rattle.meaning.proofs.Basics.{by_cases, clash, false_of, and_r, or_elim, eqb-true, eqb-ne, eqb-self}
use Rattle.meaning.proofs.Lists.{any_none, none_any, first-in}
use Rattle.meaning.proofs.Literals.{var-plain, odd-plain}
use Rattle.meaning.proofs.Prefix.{good-out, good-tail, right-any}
use Rattle.meaning.proofs.Parts.{good_of}
use Rattle.reasons.proofs.Places.{entry-mentioned, right-part, part-good, part_right}
use Rattle.reasons.proofs.Afters.{right-entry, universal-after, some-universal, universal-is, existential-after, existential-is}

abbrev even : ℕ → Bool
even q = not (odd q)

-- an entry of the rest is of another variable than the first
other : (q : ℕ) (s : List ℕ) (e : ℕ) → good_prefix (q ∷ s) ≡ true → has e s ≡ true → eqb (var q) (var e) ≡ false
other q s e g h = eqb-ne (var q) (var e) (λ d. clash (entry-mentioned e s h) (rw d at (good-out q s g)))

-- where universals do not all come first, the first existential has a universal after it
not_first : (s : List ℕ) → good_prefix s ≡ true → universals_first s ≡ false → (any_of even s ≡ true) × (any_of odd (right_of (var (first_passing even s)) s) ≡ true)
unfolding universals_first all_exist any_of first_passing right_of is_var
not_first [] g h = absurd (true≢false h)
not_first (q ∷ s) g h = go (odd q) h (not_first s (good-tail q s g))
  where
    go : (t : Bool) → cond t (universals_first s) (all_exist s) ≡ false
        → (universals_first s ≡ false → (any_of even s ≡ true) × (any_of odd (right_of (var (first_passing even s)) s) ≡ true))
        → ((not t || any_of even s) ≡ true) × (any_of odd (cond (eqb (var q) (var (cond (not t) q (first_passing even s)))) s (right_of (var (cond (not t) q (first_passing even s))) s)) ≡ true)
    go true k ih = let r = ih k in (r.0, rw (other q s (first_passing even s) g (first-in even s r.0)) r.1)
    go false k ih = (refl, rw (eqb-self (var q)) (by_cases (any_of odd s) (λ e. e) (λ e. clash (any_none odd s e) k)))

-- where they do, no existential has one
all_first : (s : List ℕ) → good_prefix s ≡ true → universals_first s ≡ true → (e : ℕ) → has e s ≡ true → odd e ≡ false → any_of odd (right_of (var e) s) ≡ false
unfolding universals_first all_exist has any_of right_of is_var
all_first [] g h e i o = absurd (false≢true i)
all_first (q ∷ s) g h e i o = go (odd q) refl h (λ k j. all_first s (good-tail q s g) k e j o)
  where
    later : odd q ≡ true → has e s ≡ true
    later d = or_elim (eqb e q) _ i (λ j. clash (ap odd (eqb-true e q j) ∙ d) o) (λ j. unfold has in j)

    within : (t : Bool) → any_of odd (cond t s (right_of (var e) s)) ≡ true → any_of odd s ≡ true
    within true k = k
    within false k = right-any odd (var e) s k

    go : (t : Bool) → odd q ≡ t → cond t (universals_first s) (all_exist s) ≡ true → (universals_first s ≡ true → has e s ≡ true → any_of odd (right_of (var e) s) ≡ false)
        → any_of odd (cond (eqb (var q) (var e)) s (right_of (var e) s)) ≡ false
    go true d k ih = rw (other q s e g (later d)) (ih k (later d))
    go false d k ih = false_of _ (λ j. clash (within (eqb (var q) (var e)) j) (none_any odd s k))

module _ (φ : Formula) (w : well_formed φ ≡ true) (u : ℕ) where
  right-good : good_prefix (right_of u φ.prefix) ≡ true
  right-good = part-good φ.prefix (right_of u φ.prefix) (good_of φ w) (right-part u φ.prefix)

  -- right of what stands right of u
  right-right : (e : ℕ) → left_of φ u e ≡ true → right_of e φ.prefix ≡ right_of e (right_of u φ.prefix)
  unfolding left_of
  right-right e h = part_right φ.prefix (right_of u φ.prefix) (good_of φ w) (right-part u φ.prefix) e h

  pub between-true : Quiet φ → universal φ.prefix u ≡ true → permitted φ expand u 0 ≡ false
      → Between φ u (existential_after φ u) (universal_after φ (existential_after φ u))
  between-true quiet h n = record { quiet = quiet; forall = h; leftmost = leftmost; first-universal = universal-after φ w (existential_after φ u) odd-after }
    where
      late : universals_first (right_of u φ.prefix) ≡ false
      late = unfold permitted expand_permitted in (rw h at n)

      parts : (any_of even (right_of u φ.prefix) ≡ true) × (any_of odd (right_of (existential_after φ u) (right_of u φ.prefix)) ≡ true)
      parts = unfold existential_after in not_first (right_of u φ.prefix) right-good late

      leftmost : LeftmostExistential φ u (existential_after φ u)
      leftmost = existential-after φ w u parts.0

      odd-after : any_of odd (right_of (existential_after φ u) φ.prefix) ≡ true
      odd-after = ap (any_of odd) (right-right (existential_after φ u) leftmost.right) ∙ parts.1

  pub record OnlyBetween (e v : ℕ) : Type 0 where
    pub forbidden : permitted φ expand u 0 ≡ false
    pub exists : existential_after φ u ≡ e
    pub forall : universal_after φ e ≡ v

  pub between-only : (e v : ℕ) → Between φ u e v → OnlyBetween e v
  between-only e v s = record { forbidden = forbidden; exists = existential-is φ w u e s.leftmost; forall = universal-is φ w e v s.first-universal }
    where
      after : any_of odd (right_of e φ.prefix) ≡ true
      after = some-universal φ w e v s.first-universal

      here : has (2 * e) (right_of u φ.prefix) ≡ true
      here = right-entry φ w u (2 * e) (unfold existential in s.leftmost.exists) (ap (left_of φ u) (var-plain e) ∙ s.leftmost.right)

      none : universals_first (right_of u φ.prefix) ≡ true → any_of odd (right_of e φ.prefix) ≡ false
      none h = ap (any_of odd) (right-right e s.leftmost.right) ∙ (rw (var-plain e) at (all_first (right_of u φ.prefix) right-good h (2 * e) here (odd-plain e)))

      forbidden : permitted φ expand u 0 ≡ false
      forbidden = unfold permitted expand_permitted in false_of _ (λ h. clash after (none (and_r (universal φ.prefix u) _ h)))
