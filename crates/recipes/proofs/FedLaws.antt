-- What a recipe makes of clauses whose literals are in range, where it keeps some and changes each by a function.
-- Assumes nothing.
use Prim.Native.Nat.{ℕ, suc}
use mathlib.Core.Path.{◌≡◌, refl}
use mathlib.Core.Bool.{Bool, true, false, ◌&&◌, not, cond}
use mathlib.Core.List.{List, [], ◌∷◌, ◌++◌, map}
use lib.Dec.{ltb, leb}
use borrow.Author.Tests.{ltb-true, le-leb}
use Rattle.meaning.specs.Lists.{all_of, keep_if}
use Rattle.meaning.specs.Formula.{Formula, var, mentions}
use Rattle.meaning.specs.WellFormed.{good_prefix, bound, well_formed, fits, max_variables}
use Rattle.table.specs.Pending.{in_range}
use Rattle.recipes.specs.Recipe.{taken, turned, some_of, fed, raw_by, raws_by}
use Rattle.recipes.specs.declared.Which.{Which}
use Rattle.recipes.specs.declared.Turn.{Turn}
use Rattle.meaning.proofs.Basics.{and_l, and_r, and_i}
use Rattle.meaning.proofs.Lists.{all-all, all-le}
use Rattle.meaning.proofs.Prefix.{bound-numbers}
use Rattle.meaning.proofs.Parts.{room_of, good_of, bound_all}

-- The entries and the literals of a well formed formula are in range ---------------------------------------------------
good-above : (p : List ℕ) → good_prefix p ≡ true → all_of (λ q. leb 1 (var q)) p ≡ true
unfolding good_prefix all_of
good-above [] g = refl
good-above (q ∷ p) g =
    and_i (leb 1 (var q)) (all_of (λ x. leb 1 (var x)) p) (le-leb 1 (var q) (ltb-true 0 (var q) (and_l (ltb 0 (var q)) (not (mentions p (var q)) && good_prefix p) g)))
    (good-above p (and_r (not (mentions p (var q))) (good_prefix p) (and_r (ltb 0 (var q)) (not (mentions p (var q)) && good_prefix p) g)))

pub numbers-in : (φ : Formula) → well_formed φ ≡ true → fits φ ≡ true → all_of (λ q. in_range q) φ.prefix ≡ true
unfolding in_range
numbers-in φ w f =
    all-all (λ q. leb 1 (var q)) (λ q. leb (var q) max_variables) φ.prefix (good-above φ.prefix (good_of φ w)) (room_of φ f).numbers

-- so are those of a clause of the prefix's variables
pub bound-range : (p c : List ℕ) → all_of (λ q. in_range q) p ≡ true → bound p c ≡ true → all_of in_range c ≡ true
unfolding in_range
bound-range p c n b = bound-numbers (λ v. leb 1 v && leb v max_variables) p c n b

pub in-range : (φ : Formula) → well_formed φ ≡ true → fits φ ≡ true → all_of (all_of in_range) φ.clauses ≡ true
in-range φ w f =
    all-le (bound φ.prefix) (all_of in_range) φ.clauses (λ c b. bound-range φ.prefix c (numbers-in φ w f) b) (bound_all φ w)

-- One clause ----------------------------------------------------------------------------------------------------------
pub map_same : {A : Type 0} (f : A → A) → ((x : A) → f x ≡ x) → (c : List A) → map f c ≡ c
map_same f h [] = refl
map_same f h (x ∷ c) = rw (h x, map_same f h c)

pub fed-keep : (t : Turn) (q : List ℕ) (i : ℕ) (g keep : ℕ → Bool) (f : ℕ → ℕ) (c : List ℕ) → all_of g c ≡ true
    → ((k : ℕ) → g k ≡ true → some_of (turned t q i k) ≡ cond (keep k) (f k ∷ []) []) → fed t q i c ≡ map f (keep_if keep c)
unfolding fed keep_if all_of
fed-keep t q i g keep f [] a h = refl
fed-keep t q i g keep f (k ∷ c) a h = go (keep k) (h k (and_l (g k) (all_of g c) a)) (fed-keep t q i g keep f c (and_r (g k) (all_of g c) a) h)
  where
    go : (b : Bool) → some_of (turned t q i k) ≡ cond b (f k ∷ []) [] → fed t q i c ≡ map f (keep_if keep c) → some_of (turned t q i k) ++ fed t q i c ≡ map f (cond b (k ∷ keep_if keep c) (keep_if keep c))
    go true e ih = rw (e, ih)
    go false e ih = rw (e, ih)

-- All clauses ---------------------------------------------------------------------------------------------------------
pub raws-keep : (w : Which) (t : Turn) (q : List ℕ) (g keep : List ℕ → Bool) (f : List ℕ → List ℕ) (i : ℕ) (cs : List (List ℕ)) → all_of g cs ≡ true
    → ((n : ℕ) (c : List ℕ) → g c ≡ true → taken w q n c ≡ keep c) → ((n : ℕ) (c : List ℕ) → g c ≡ true → fed t q n c ≡ f c) → raws_by w t q i cs ≡ map f (keep_if keep cs)
unfolding raws_by raw_by keep_if all_of
raws-keep w t q g keep f i [] a h k = refl
raws-keep w t q g keep f i (c ∷ cs) a h k =
    go (keep c) (h i c (and_l (g c) (all_of g cs) a)) (k i c (and_l (g c) (all_of g cs) a)) (raws-keep w t q g keep f (suc i) cs (and_r (g c) (all_of g cs) a) h k)
  where
    go : (b : Bool) → taken w q i c ≡ b → fed t q i c ≡ f c → raws_by w t q (suc i) cs ≡ map f (keep_if keep cs) → cond (taken w q i c) (fed t q i c ∷ []) [] ++ raws_by w t q (suc i) cs ≡ map f (cond b (c ∷ keep_if keep cs) (keep_if keep cs))
    go true e d ih = rw (e, d, ih)
    go false e d ih = rw (e, ih)
