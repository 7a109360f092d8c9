-- A clause with a literal that tidying does not take away has no resolvent without it.
-- Assumes nothing.
use Prim.Native.Nat.{ℕ, zero, suc, ◌/◌}
use mathlib.Core.Path.{◌≡◌, refl, sym, ap, ◌∙◌}
use mathlib.Core.Bool.{Bool, true, false, ◌||◌, not, cond}
use mathlib.Core.List.{List, [], ◌∷◌}
use lib.ListN.{take}
use lib.Dec.{eqb}
use Rattle.meaning.specs.Lists.{all_of, has, without}
use Rattle.meaning.specs.Formula.{var, plain, negated, universal}
use Rattle.meaning.specs.Tidy.{ascending, both_phases, stays, reduce, dropped, kept, tidy_sorted, tidy}
use Rattle.resolvents.specs.Resolvent.{resolvent, becomes, stays_in, fits_in}
use Rattle.meaning.proofs.Basics.{by_cases, false_of, clash, and_i, and_l, and_r, eqb-eq, eqb-ne, or-il, or-ir}
use Rattle.meaning.proofs.Lists.{any_append, any-ascending, same-path, all-of-has, has-keep}

-- The test of one literal ------------------------------------------------------------------------------------------------
module _ (p c : List ℕ) (out l : ℕ) where
  pub stays_out : l ≡ out → true ≡ stays_in p c out l
  unfolding stays_in
  stays_out e = sym (or-il _ _ (eqb-eq e))

  module _ (n : l ≡ out → ⊥) (b : Bool) (is : b ≡ has l c) where
    pub stays-there : b ≡ true → true ≡ stays_in p c out l
    unfolding stays_in
    stays-there t = rw (eqb-ne l out n, ← is, t)

    pub stays-not : b ≡ false → (v : ℕ) → v ≡ l / 2 → (u : Bool) → u ≡ universal p v → u ≡ stays_in p c out l
    unfolding stays_in var
    stays-not t v e u q = rw (eqb-ne l out n, ← is, t, ← e) q

-- What tidying leaves ------------------------------------------------------------------------------------------------------
module _ (p raw c : List ℕ) (e : becomes c (tidy p raw) ≡ true) where
  left_is : c ≡ reduce p (ascending raw)
  unfolding tidy tidy_sorted becomes
  left_is = go (both_phases (ascending raw)) e
    where
      go : (b : Bool) → becomes c (cond b dropped (kept (reduce p (ascending raw)))) ≡ true → c ≡ reduce p (ascending raw)
      go true h = clash h refl
      go false h = same-path c (reduce p (ascending raw)) h

  -- a literal that is no universal is left
  left-has : (l : ℕ) → has l raw ≡ true → universal p (var l) ≡ false → has l c ≡ true
  unfolding reduce stays has
  left-has l h u =
      rw left_is (has-keep (stays p (ascending raw)) (ascending raw) l (any-ascending (λ k. eqb l k) raw ∙ h) (rw u))

-- The two clauses of a pair ---------------------------------------------------------------------------------------------------
module _ (p x y c : List ℕ) (a : ℕ) where
  module _ (out : ℕ) (z : List ℕ) (inside : (l : ℕ) → has l z ≡ true → (l ≡ out → ⊥) → has l (resolvent a x y) ≡ true) where
    fits_all : becomes c (tidy p (resolvent a x y)) ≡ true → fits_in p c out z ≡ true
    unfolding fits_in stays_in
    fits_all e =
        all-of-has (stays_in p c out) z (λ l h.
        by_cases (eqb l out) (λ t. or-il (eqb l out) (has l c || universal p (var l)) t)
        (λ t. or-ir (eqb l out) (has l c || universal p (var l)) (
        by_cases (universal p (var l)) (λ u. or-ir (has l c) (universal p (var l)) u)
        (λ u. or-il (has l c) (universal p (var l)) (left-has p (resolvent a x y) c e l (inside l h (λ d. clash (eqb-eq d) t)) u)))))

  others-have : (l out : ℕ) (z : List ℕ) → has l z ≡ true → (l ≡ out → ⊥) → has l (without out z) ≡ true
  unfolding without
  others-have l out z h n = has-keep (λ k. not (eqb out k)) z l h (ap not (eqb-ne out l (λ d. n (sym d))))

  either : (l : ℕ) → has l (resolvent a x y) ≡ (has l (without (plain a) x) || has l (without (negated a) y))
  unfolding resolvent has
  either l = any_append (λ k. eqb l k) (without (plain a) x) (without (negated a) y)

  pub not-fits : fits_in p c (plain a) x ≡ false → becomes c (tidy p (resolvent a x y)) ≡ false
  not-fits n =
      false_of (becomes c (tidy p (resolvent a x y)))
      (λ e. clash (fits_all (plain a) x
      (λ l h d. either l ∙ or-il (has l (without (plain a) x)) (has l (without (negated a) y)) (others-have l (plain a) x h d)) e) n)

  pub not-fits-negative : fits_in p c (negated a) y ≡ false → becomes c (tidy p (resolvent a x y)) ≡ false
  not-fits-negative n =
      false_of (becomes c (tidy p (resolvent a x y)))
      (λ e. clash (fits_all (negated a) y
      (λ l h d. either l ∙ or-ir (has l (without (plain a) x)) (has l (without (negated a) y)) (others-have l (negated a) y h d)) e) n)

-- what fits fits with its first literals
all_take : (f : ℕ → Bool) (n : ℕ) (l : List ℕ) → all_of f l ≡ true → all_of f (take n l) ≡ true
unfolding all_of
all_take f zero l t = refl
all_take f (suc n) [] t = refl
all_take f (suc n) (x ∷ l) t = and_i (f x) (all_of f (take n l)) (and_l (f x) (all_of f l) t) (all_take f n l (and_r (f x) (all_of f l) t))

pub front_fits : (p c : List ℕ) (out n : ℕ) (y : List ℕ) → fits_in p c out (take n y) ≡ false → fits_in p c out y ≡ false
unfolding fits_in
front_fits p c out n y e = false_of (all_of (stays_in p c out) y) (λ t. clash (all_take (stays_in p c out) n y t) e)
