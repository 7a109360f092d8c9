-- The lowest number of a list that passes a test: where the list has all that pass, it is the first that passes of all numbers.
-- Assumes nothing.
use Prim.Native.Nat.{ℕ, zero, suc, ◌+◌, ◌≤◌, ◌<◌, min}
use mathlib.Core.Path.{◌≡◌, refl, sym, ap, ◌∙◌}
use mathlib.Core.Bool.{Bool, true, false}
use mathlib.Core.List.{List, [], ◌∷◌, foldl}
use lib.Dec.{eqb, ltb}
use borrow.Author.Tests.{ltb-true, ltb-false}
use native.Mathlib.Omega.{arith}
use Rattle.std.specs.List.{reduce}
use Rattle.meaning.specs.Lists.{any_of, all_of, has, keep_if, up_from}
use Rattle.meaning.proofs.Lists.{has-keep, all-kept}
use Rattle.rules.specs.Choice.{none, found, first_b}
use Rattle.search.specs.Candidates.{found_as, lowest_of, Lowest}
use Rattle.std.specs.Prelude.{Some, None}
use Rattle.meaning.proofs.Basics.{by_cases, false_of, clash, and_l, and_r, or_elim, eqb-true, eqb-false}

-- The least of a list, from x on -----------------------------------------------------------------------------------
min-within : (x : ℕ) (k : List ℕ) → foldl min x k ≤ x
min-within x [] = omega arith
min-within x (b ∷ k) = let ih : foldl min (min x b) k ≤ min x b = min-within (min x b) k in omega arith

min-least : (x : ℕ) (k : List ℕ) (b : ℕ) → has b k ≡ true → foldl min x k ≤ b
unfolding has any_of
min-least x [] b h = clash h refl
min-least x (a ∷ k) b h =
    or_elim (eqb b a) (any_of (λ i. eqb b i) k) h
    (λ q. let s = eqb-true b a q in let n : foldl min (min x a) k ≤ min x a = min-within (min x a) k in omega arith)
    (λ q. min-least (min x a) k b (unfold has in q))

least-of : (x : ℕ) (k : List ℕ) (b : ℕ) → has b (x ∷ k) ≡ true → foldl min x k ≤ b
unfolding has any_of
least-of x k b h =
    or_elim (eqb b x) (any_of (λ i. eqb b i) k) h
    (λ q. let s = eqb-true b x q in let n : foldl min x k ≤ x = min-within x k in omega arith)
    (λ q. min-least x k b (unfold has in q))

min-passes : (t : ℕ → Bool) (x : ℕ) (k : List ℕ) → t x ≡ true → all_of t k ≡ true → t (foldl min x k) ≡ true
unfolding all_of
min-passes t x [] p a = p
min-passes t x (b ∷ k) p a = min-passes t (min x b) k (lesser (ltb x b) refl) (and_r (t b) (all_of t k) a)
  where
    lesser : (m : Bool) → ltb x b ≡ m → t (min x b) ≡ true
    lesser true h = let n = ltb-true x b h in ap t (omega arith) ∙ p
    lesser false h = let n = ltb-false x b h in ap t (omega arith) ∙ and_l (t b) (all_of t k) a

-- A list that has each number that passes --------------------------------------------------------------------------
module _ (t : ℕ → Bool) (n : ℕ) (l : List ℕ) (all : (b : ℕ) → t b ≡ true → has b l ≡ true) where
  pub lowest-none : None ≡ lowest_of t l → Lowest t n n
  unfolding lowest_of has any_of
  lowest-none e =
      record {
        within = omega arith;
        passes = λ m. absurd (omega arith);
        least = λ b m. false_of (t b) (λ p. none (keep_if t l) e b (has-keep t l b (all b p) p));
      }
    where
      none : (k : List ℕ) → None ≡ reduce min k → (b : ℕ) → has b k ≡ true → ⊥
      none [] e b h = clash h refl
      none (x ∷ k) e b h = cc

  -- where what passes is below n
  pub lowest-some : ((b : ℕ) → t b ≡ true → b < n) → (m : ℕ) → Some m ≡ lowest_of t l → (m < n) × Lowest t n m
  unfolding lowest_of all_of
  lowest-some below m e = some (keep_if t l) (λ b p. has-keep t l b (all b p) p) (all-kept t l) e
    where
      some : (k : List ℕ) → ((b : ℕ) → t b ≡ true → has b k ≡ true) → all_of t k ≡ true → Some m ≡ reduce min k → (m < n) × Lowest t n m
      some [] in-k a e = absurd cc
      some (x ∷ k) in-k a e =
          let is : m ≡ foldl min x k = cc in
          let p = ap t is ∙ min-passes t x k (and_l (t x) (all_of t k) a) (and_r (t x) (all_of t k) a) in
          let h = below m p in (
            h,
            record {
              within = omega arith;
              passes = λ u. p;
              least = λ b u. false_of (t b) (λ q. let n : foldl min x k ≤ b = least-of x k b (in-k b q) in omega arith);
            },
          )

-- All numbers ----------------------------------------------------------------------------------------------------
module _ (t : ℕ → Bool) (a : ℕ) where
  up_none : (s m : ℕ) → ((b : ℕ) → b < s + m → t b ≡ false) → first_b t a (up_from s m) ≡ none
  unfolding first_b up_from
  up_none s zero h = refl
  up_none s (suc m) h = rw (h s (omega arith)) (up_none (suc s) m (λ b k. h b (omega arith)))

  up-found : (s m r : ℕ) → s ≤ r → r < s + m → t r ≡ true → ((b : ℕ) → b < r → t b ≡ false) → first_b t a (up_from s m) ≡ found a r
  unfolding first_b up_from
  up-found s zero r h k e n = absurd (omega arith)
  up-found s (suc m) r h k e n =
      by_cases (eqb s r)
      (λ q. let i = eqb-true s r q in rw (i, e))
      (λ q. let d = eqb-false s r q in rw (n s (omega arith)) (up-found (suc s) m r (omega arith) (omega arith) e n))

  module _ (n r : ℕ) (low : Lowest t n r) where
    pub lowest-nothing : n ≤ r → None ≡ found_as (first_b t a (up_from 0 n))
    unfolding found_as
    lowest-nothing h = sym (ap found_as (up_none 0 n (λ b k. low.least b (omega arith))))

    pub lowest-found : r < n → Some (a, r) ≡ found_as (first_b t a (up_from 0 n))
    unfolding found_as
    lowest-found h = sym (ap found_as (up-found 0 n r (omega arith) (omega arith) (low.passes h) low.least))
