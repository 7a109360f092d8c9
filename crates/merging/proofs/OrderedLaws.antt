-- The clauses of a formula that is well formed and fits are ordered, so that any two can be merged.
-- Assumes nothing.
use Prim.Native.Nat.{ℕ, zero, suc}
use mathlib.Core.Path.{◌≡◌, refl}
use mathlib.Core.Bool.{Bool, true, ◌&&◌, not}
use mathlib.Core.List.{List, [], ◌∷◌}
use lib.ListN.{get_or}
use lib.Dec.{ltb, leb}
use borrow.Author.Tests.{ltb-true, le-leb}
use Rattle.meaning.specs.Lists.{all_of, keep_if}
use Rattle.meaning.specs.Formula.{Formula, var, mentions}
use Rattle.meaning.specs.WellFormed.{ascends, tidy_clause, good_prefix, bound, well_formed, fits, max_variables}
use Rattle.table.specs.Pending.{in_range}
use Rattle.merging.specs.Merging.{Ordered}
use Rattle.meaning.proofs.Basics.{and_l, and_r, and_i}
use Rattle.meaning.proofs.Lists.{all-all, all-le, all-keep-le}
use Rattle.meaning.proofs.Prefix.{bound-numbers}
use Rattle.meaning.proofs.Parts.{room_of, good_of, tidy_of, ascends-of, bound_all}

good-above : (p : List ℕ) → good_prefix p ≡ true → all_of (λ q. leb 1 (var q)) p ≡ true
unfolding good_prefix all_of
good-above [] g = refl
good-above (q ∷ p) g =
    and_i (leb 1 (var q)) (all_of (λ x. leb 1 (var x)) p)
    (le-leb 1 (var q) (ltb-true 0 (var q) (and_l (ltb 0 (var q)) (not (mentions p (var q)) && good_prefix p) g)))
    (good-above p (search and_r))

clauses-range : (φ : Formula) → well_formed φ ≡ true → fits φ ≡ true → all_of (all_of in_range) φ.clauses ≡ true
unfolding in_range
clauses-range φ w f =
    all-le (bound φ.prefix) (all_of in_range) φ.clauses
    (λ c b. bound-numbers (λ v. leb 1 v && leb v max_variables) φ.prefix c
    (all-all (λ q. leb 1 (var q)) (λ q. leb (var q) max_variables) φ.prefix (good-above φ.prefix (good_of φ w)) (room_of φ f).numbers) b)
    (bound_all φ w)

clauses-rise : (φ : Formula) → well_formed φ ≡ true → all_of ascends φ.clauses ≡ true
clauses-rise φ w = all-le (tidy_clause φ.prefix) ascends φ.clauses (ascends-of φ.prefix) (tidy_of φ w)

-- so too behind the last clause, where the empty one is read
all-at : (f : List ℕ → Bool) (cs : List (List ℕ)) (i : ℕ) → f [] ≡ true → all_of f cs ≡ true → f (get_or cs i []) ≡ true
unfolding all_of
all-at f [] i e h = e
all-at f (c ∷ cs) zero e h = and_l (f c) (all_of f cs) h
all-at f (c ∷ cs) (suc i) e h = all-at f cs i e (and_r (f c) (all_of f cs) h)

module _ (φ : Formula) (w : well_formed φ ≡ true) (f : fits φ ≡ true) where
  pub ordered_at : (i : ℕ) → Ordered (get_or φ.clauses i [])
  unfolding all_of ascends
  ordered_at i =
      record {
        range = all-at (all_of in_range) φ.clauses i refl (clauses-range φ w f);
        rise = all-at ascends φ.clauses i refl (clauses-rise φ w);
      }

  pub ordered-kept : (g : List ℕ → Bool) (i : ℕ) → Ordered (get_or (keep_if g φ.clauses) i [])
  unfolding all_of ascends
  ordered-kept g i =
      record {
        range = all-at (all_of in_range) (keep_if g φ.clauses) i refl (all-keep-le (all_of in_range) g φ.clauses (clauses-range φ w f));
        rise = all-at ascends (keep_if g φ.clauses) i refl (all-keep-le ascends g φ.clauses (clauses-rise φ w));
      }
