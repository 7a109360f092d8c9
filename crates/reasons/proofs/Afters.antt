-- The first universal and the leftmost existential right of a variable are what their names say, and the only ones. Assumes nothing.
use mathlib.Core.Path.{◌≡◌, ap, subst}
use Prim.Native.Nat.{ℕ, ◌+◌, ◌*◌}
use mathlib.Core.Bool.{Bool, true, false, not}
use Rattle.meaning.specs.Lists.{any_of, has, first_passing}
use Rattle.meaning.specs.Formula.{Formula, var, odd, existential, universal, right_of}
use Rattle.meaning.specs.WellFormed.{well_formed}
use Rattle.rules.proofs.Ahead.{left_of}
use Rattle.reasons.specs.Reason.{universal_after, existential_after}
use Rattle.reasons.specs.Statement.{FirstUniversal, LeftmostExistential}
use Rattle.meaning.proofs.Basics.{not-true}
use Rattle.meaning.proofs.Lists.{any-has, first_passes, first-in}
use Rattle.meaning.proofs.Literals.{var-plain, var-negated, odd-plain, odd-negated, plain-is, negated-is}
use Rattle.meaning.proofs.Prefix.{exists-mentioned, forall-mentioned}
use Rattle.meaning.proofs.Parts.{good_of}
use Rattle.reasons.proofs.Places.{same_place, entry-mentioned, right-part, part-good, part-any, part_right, part-entry, first-left}

module _ (φ : Formula) (w : well_formed φ ≡ true) where
  -- the entry q stands right of x
  pub right-entry : (x q : ℕ) → has q φ.prefix ≡ true → left_of φ x (var q) ≡ true → has q (right_of x φ.prefix) ≡ true
  unfolding left_of
  right-entry x q h m = part-entry φ.prefix (right_of x φ.prefix) (good_of φ w) (right-part x φ.prefix) q h m

  -- The first entry right of x that passes a test
  module _ (f : ℕ → Bool) (x : ℕ) (some : any_of f (right_of x φ.prefix) ≡ true) where
    after-in : has (first_passing f (right_of x φ.prefix)) φ.prefix ≡ true
    unfolding has
    after-in = part-any φ.prefix (right_of x φ.prefix) (good_of φ w) (right-part x φ.prefix) _ (unfold has in first-in f (right_of x φ.prefix) some)

    after-right : left_of φ x (var (first_passing f (right_of x φ.prefix))) ≡ true
    unfolding left_of
    after-right = entry-mentioned _ _ (first-in f (right_of x φ.prefix) some)

    after_first : (q : ℕ) → has q φ.prefix ≡ true → left_of φ x (var q) ≡ true → f q ≡ true → left_of φ (var q) (var (first_passing f (right_of x φ.prefix))) ≡ false
    unfolding left_of
    after_first q h m i =
        rw (part_right φ.prefix (right_of x φ.prefix) (good_of φ w) (right-part x φ.prefix) (var q) m)
        (first-left f (right_of x φ.prefix) (part-good φ.prefix (right_of x φ.prefix) (good_of φ w) (right-part x φ.prefix)) q (right-entry x q h m) i)

  -- Universals -----------------------------------------------------------------------------------------------------
  pub universal-after : (x : ℕ) → any_of odd (right_of x φ.prefix) ≡ true → FirstUniversal φ x (universal_after φ x)
  unfolding universal_after universal
  universal-after x some =
      record {
        forall = subst (λ (q : ℕ). has q φ.prefix ≡ true) (negated-is _ (first_passes odd (right_of x φ.prefix) some)) (after-in odd x some);
        right = after-right odd x some;
        first = λ u h m. rw (var-negated u) at (after_first odd x some (2 * u + 1) h (rw (var-negated u) m) (odd-negated u));
      }

  pub some-universal : (x u : ℕ) → FirstUniversal φ x u → any_of odd (right_of x φ.prefix) ≡ true
  unfolding universal
  some-universal x u r = any-has odd _ (2 * u + 1) (right-entry x (2 * u + 1) r.forall (rw (var-negated u) r.right)) (odd-negated u)

  pub one-universal : (x u v : ℕ) → FirstUniversal φ x u → FirstUniversal φ x v → u ≡ v
  unfolding left_of
  one-universal x u v r s =
      same_place φ.prefix u v (forall-mentioned _ u r.forall) (forall-mentioned _ v s.forall) (s.first u r.forall r.right) (r.first v s.forall s.right)

  pub universal-is : (x u : ℕ) → FirstUniversal φ x u → universal_after φ x ≡ u
  universal-is x u r = one-universal x (universal_after φ x) u (universal-after x (some-universal x u r)) r

  -- Existentials ---------------------------------------------------------------------------------------------------
  pub existential-after : (u : ℕ) → any_of (λ q. not (odd q)) (right_of u φ.prefix) ≡ true → LeftmostExistential φ u (existential_after φ u)
  unfolding existential_after existential
  existential-after u some =
      record {
        exists = subst (λ (q : ℕ). has q φ.prefix ≡ true) (plain-is _ (not-true _ (first_passes (λ q. not (odd q)) (right_of u φ.prefix) some))) (after-in (λ q. not (odd q)) u some);
        right = after-right (λ q. not (odd q)) u some;
        leftmost = λ e h m. rw (var-plain e) at (after_first (λ q. not (odd q)) u some (2 * e) h (rw (var-plain e) m) (ap not (odd-plain e)));
      }

  pub some-existential : (u e : ℕ) → LeftmostExistential φ u e → any_of (λ q. not (odd q)) (right_of u φ.prefix) ≡ true
  unfolding existential
  some-existential u e r = any-has (λ q. not (odd q)) _ (2 * e) (right-entry u (2 * e) r.exists (rw (var-plain e) r.right)) (ap not (odd-plain e))

  pub one-existential : (u d e : ℕ) → LeftmostExistential φ u d → LeftmostExistential φ u e → d ≡ e
  unfolding left_of
  one-existential u d e r s =
      same_place φ.prefix d e (exists-mentioned _ d r.exists) (exists-mentioned _ e s.exists) (s.leftmost d r.exists r.right) (r.leftmost e s.exists s.right)

  pub existential-is : (u e : ℕ) → LeftmostExistential φ u e → existential_after φ u ≡ e
  existential-is u e r = one-existential u (existential_after φ u) e (existential-after u (some-existential u e r)) r
