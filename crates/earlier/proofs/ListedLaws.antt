-- The clauses with a literal among the first ones of a list, by the list of their numbers.
-- Assumes nothing.
use Prim.Native.Nat.{ℕ, zero, suc, ◌+◌, ◌-◌, ◌≤◌, ◌<◌}
use mathlib.Core.Path.{◌≡◌, refl, sym, ap, ◌∙◌}
use mathlib.Core.Bool.{Bool, true, false, ◌&&◌, ◌||◌, cond}
use mathlib.Core.List.{List, [], ◌∷◌, ◌++◌}
use lib.ListN.{length, get_or, take, drop, length-append}
use lib.Seq.{append_snoc, get_or_at, take-nil}
use lib.Dec.{ltb}
use borrow.Author.Tests.{lt-ltb, le-ltb, ltb-true, ltb-false}
use native.Mathlib.Omega.{arith}
use native.Mathlib.Nat.{not-suc-le-zero, le_of_suc-le-suc}
use Rattle.meaning.specs.Lists.{any_of, keep_if, has}
use Rattle.rules.specs.Eliminate.{with_lit}
use Rattle.index.specs.Index.{clauses_from, clauses_with}
use Rattle.meaning.proofs.Basics.{by_cases}
use Rattle.table.proofs.LoopLaws.{any_found, any-turn, any-end}
use Rattle.index.proofs.ClauseLaws.{with_at}

-- A test of those below b ------------------------------------------------------------------------------------------------
module _ (f : List ℕ → Bool) (l b : ℕ) where
  abbrev pub below : List (List ℕ) → ℕ → Bool
  below cs j = ltb j b && f (get_or cs j [])

  -- none of those from b on passes
  none-behind : (all : List (List ℕ)) (k : ℕ) (cs : List (List ℕ)) → b ≤ k → any_of (below all) (clauses_from k cs l) ≡ false
  unfolding any_of clauses_from
  none-behind all k [] h = refl
  none-behind all k (c ∷ cs) h = go (has l c) (none-behind all (suc k) cs (omega arith))
    where
      go : (t : Bool) → any_of (below all) (clauses_from (suc k) cs l) ≡ false
          → any_of (below all) (cond t (k ∷ clauses_from (suc k) cs l) (clauses_from (suc k) cs l)) ≡ false
      go true ih = rw (le-ltb k b h) ih
      go false ih = ih

  from-any : (before : List (List ℕ)) (k : ℕ) (cs : List (List ℕ)) → length before ≡ k
      → any_of (below (before ++ cs)) (clauses_from k cs l) ≡ any_of f (keep_if (has l) (take (b - k) cs))
  unfolding any_of clauses_from keep_if
  from-any before k [] e = rw (take-nil {A = List ℕ} (b - k))
  from-any before k (c ∷ cs) e =
      let later : any_of (below (before ++ (c ∷ cs))) (clauses_from (suc k) cs l) ≡ any_of f (keep_if (has l) (take (b - suc k) cs)) =
      ap (λ (ds : List (List ℕ)). any_of (below ds) (clauses_from (suc k) cs l)) (sym (append_snoc before c cs))
      ∙ from-any (before ++ (c ∷ [])) (suc k) cs (length-append before (c ∷ []) ∙ omega arith) in
      by_cases (ltb k b) (λ t. inside (ltb-true k b t) later)
      (λ t. let h = ltb-false k b t in
      none-behind (before ++ (c ∷ cs)) k (c ∷ cs) h ∙ (let z : b - k ≡ 0 = omega arith in rw z))
    where
      go : (t : Bool) → k < b → any_of (below (before ++ (c ∷ cs))) (clauses_from (suc k) cs l) ≡ any_of f (keep_if (has l) (take (b - suc k) cs))
          → any_of (below (before ++ (c ∷ cs))) (cond t (k ∷ clauses_from (suc k) cs l) (clauses_from (suc k) cs l))
          ≡ any_of f (cond t (c ∷ keep_if (has l) (take (b - suc k) cs)) (keep_if (has l) (take (b - suc k) cs)))
      go true h later = rw (lt-ltb k b h, get_or_at before c cs [] k e) (ap (λ (r : Bool). f c || r) later)
      go false h later = later

      inside : k < b → any_of (below (before ++ (c ∷ cs))) (clauses_from (suc k) cs l) ≡ any_of f (keep_if (has l) (take (b - suc k) cs))
          → any_of (below (before ++ (c ∷ cs))) (clauses_from k (c ∷ cs) l) ≡ any_of f (keep_if (has l) (take (b - k) (c ∷ cs)))
      inside h later = let z : b - k ≡ suc (b - suc k) = omega arith in rw z (go (has l c) h later)

  pub listed-any : (cs : List (List ℕ)) → any_of (below cs) (clauses_with cs l) ≡ any_of f (with_lit l (take b cs))
  unfolding clauses_with with_lit
  listed-any cs =
      let z : b - 0 ≡ b = omega arith in
      from-any [] 0 cs refl ∙ ap (λ (n : ℕ). any_of f (keep_if (has l) (take n cs))) z

-- The first ones with the literal are those among the clauses before ---------------------------------------------------------
from-above : (l k : ℕ) (cs : List (List ℕ)) (i : ℕ) → i < length (clauses_from k cs l) → k ≤ get_or (clauses_from k cs l) i 0
unfolding clauses_from
from-above l k [] i h = absurd (not-suc-le-zero h)
from-above l k (c ∷ cs) i h = go (has l c) i h (λ j g. from-above l (suc k) cs j g)
  where
    go : (t : Bool) (j : ℕ) → j < length (cond t (k ∷ clauses_from (suc k) cs l) (clauses_from (suc k) cs l))
        → ((m : ℕ) → m < length (clauses_from (suc k) cs l) → suc k ≤ get_or (clauses_from (suc k) cs l) m 0)
        → k ≤ get_or (cond t (k ∷ clauses_from (suc k) cs l) (clauses_from (suc k) cs l)) j 0
    go true zero h ih = omega arith
    go true (suc j) h ih = omega (arith, ih j (le_of_suc-le-suc h))
    go false j h ih = omega (arith, ih j h)

from-take : (l k : ℕ) (cs : List (List ℕ)) (i : ℕ) → i < length (clauses_from k cs l)
    → take i (keep_if (has l) cs) ≡ keep_if (has l) (take (get_or (clauses_from k cs l) i 0 - k) cs)
unfolding clauses_from keep_if
from-take l k [] i h = absurd (not-suc-le-zero h)
from-take l k (c ∷ cs) i h = go (has l c) refl i h (λ j g. from-take l (suc k) cs j g)
  where
    go : (t : Bool) → has l c ≡ t → (j : ℕ) → j < length (cond t (k ∷ clauses_from (suc k) cs l) (clauses_from (suc k) cs l))
        → ((m : ℕ) → m < length (clauses_from (suc k) cs l)
        → take m (keep_if (has l) cs) ≡ keep_if (has l) (take (get_or (clauses_from (suc k) cs l) m 0 - suc k) cs))
        → take j (cond t (c ∷ keep_if (has l) cs) (keep_if (has l) cs))
        ≡ keep_if (has l) (take (get_or (cond t (k ∷ clauses_from (suc k) cs l) (clauses_from (suc k) cs l)) j 0 - k) (c ∷ cs))
    go true e zero h ih = let z : k - k ≡ 0 = omega arith in rw z
    go true e (suc j) h ih =
        let g = get_or (clauses_from (suc k) cs l) j 0 in
        let z : g - k ≡ suc (g - suc k) = omega (arith, from-above l (suc k) cs j (le_of_suc-le-suc h)) in
        rw (z, e) (ap (λ (r : List (List ℕ)). c ∷ r) (ih j (le_of_suc-le-suc h)))
    go false e j h ih =
        let g = get_or (clauses_from (suc k) cs l) j 0 in
        let z : g - k ≡ suc (g - suc k) = omega (arith, from-above l (suc k) cs j h) in
        rw (z, e) (ih j h)

pub listed-take : (l : ℕ) (cs : List (List ℕ)) (i : ℕ) → i < length (clauses_with cs l)
    → take i (with_lit l cs) ≡ with_lit l (take (get_or (clauses_with cs l) i 0) cs)
unfolding clauses_with with_lit
listed-take l cs i h = from-take l 0 cs i h ∙ (let z : get_or (clauses_from 0 cs l) i 0 - 0 ≡ get_or (clauses_from 0 cs l) i 0 = omega arith in rw z)

-- The numbers of a literal's list, one by one ----------------------------------------------------------------------------------
module _ (f : List ℕ → Bool) (l b : ℕ) (cs : List (List ℕ)) (s : List ℕ) (is : s ≡ clauses_with cs l) where
  pub listed_start : any_of f (with_lit l (take b cs)) ≡ any_of (below f l b cs) (drop 0 s)
  listed_start = sym (ap (any_of (below f l b cs)) is ∙ listed-any f l b cs)

  module _ (i : ℕ) (inv : any_of f (with_lit l (take b cs)) ≡ any_of (below f l b cs) (drop i s)) where
    module _ (h : i < length s) (j : ℕ) (at : j ≡ get_or s i 0) (r : Bool) (said : r ≡ (ltb j b && f (get_or cs j []))) where
      this : below f l b cs (get_or s i 0) ≡ r
      this = sym (said ∙ rw at)

      pub listed_found : r ≡ true → true ≡ any_of f (with_lit l (take b cs))
      listed_found t = any_found (below f l b cs) 0 s i inv h (this ∙ t)

      pub listed-turn : r ≡ false → any_of f (with_lit l (take b cs)) ≡ any_of (below f l b cs) (drop (i + 1) s)
      listed-turn t = any-turn (below f l b cs) 0 s i inv h (this ∙ t)

    pub listed-end : length s ≤ i → false ≡ any_of f (with_lit l (take b cs))
    listed-end h = any-end (below f l b cs) 0 s i inv h

-- each is the number of a clause
pub listed-low : (l : ℕ) (cs : List (List ℕ)) (s : List ℕ) → s ≡ clauses_with cs l → (i : ℕ) → i < length s → get_or s i 0 < length cs
listed-low l cs s is i h = rw is (with_at cs l i (rw is at h))
