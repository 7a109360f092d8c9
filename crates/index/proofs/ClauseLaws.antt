-- The clauses with a literal: which they are, how many, and that they are there exactly if the literal occurs.
-- Assumes nothing.
use Prim.Native.Nat.{ℕ, suc, ◌+◌, ◌<◌}
use mathlib.Core.Path.{◌≡◌, refl, sym, ap, ◌∙◌}
use mathlib.Core.Bool.{Bool, true, false, ◌||◌, not, cond}
use mathlib.Core.List.{List, [], ◌∷◌, ◌++◌, map}
use lib.ListN.{length, get_or, length-append, length-map}
use lib.Seq.{append_snoc, get_or_at}
use lib.Dec.{eqb, ltb}
use borrow.Author.Tests.{lt-ltb, ltb-true, ne_eqb}
use native.Mathlib.Omega.{arith}
use native.Mathlib.Nat.{add-zero, add-suc, suc-add}
use Rattle.meaning.specs.Lists.{all_of, any_of, keep_if, has, up_from}
use Rattle.index.specs.Index.{clauses_from, clauses_with}
use Rattle.table.proofs.LoopLaws.{all_get_d}

-- As a selection: from clause k on, where the list `before` has the k clauses before ----------------------------
next-length : (before : List (List ℕ)) (c : List ℕ) (k : ℕ) → length before ≡ k → length (before ++ (c ∷ [])) ≡ suc k
next-length before c k e = length-append before (c ∷ []) ∙ omega arith

from-kept : (l k : ℕ) (before cs : List (List ℕ)) → length before ≡ k
    → clauses_from k cs l ≡ keep_if (λ i. has l (get_or (before ++ cs) i [])) (up_from k (length cs))
unfolding clauses_from keep_if up_from
from-kept l k before [] e = refl
from-kept l k before (c ∷ cs) e =
    rw (get_or_at before c cs [] k e)
    (ap (λ (r : List ℕ). cond (has l c) (k ∷ r) r)
    (from-kept l (suc k) (before ++ (c ∷ [])) cs (next-length before c k e)
    ∙ ap (λ (ds : List (List ℕ)). keep_if (λ i. has l (get_or ds i [])) (up_from (suc k) (length cs))) (append_snoc before c cs)))

pub with-kept : (cs : List (List ℕ)) (l : ℕ) → clauses_with cs l ≡ keep_if (λ i. has l (get_or cs i [])) (up_from 0 (length cs))
unfolding clauses_with
with-kept cs l = from-kept l 0 [] cs refl

from-clauses : (l k : ℕ) (before cs : List (List ℕ)) → length before ≡ k
    → map (λ i. get_or (before ++ cs) i []) (clauses_from k cs l) ≡ keep_if (has l) cs
unfolding clauses_from keep_if
from-clauses l k before [] e = refl
from-clauses l k before (c ∷ cs) e =
    go (has l c)
    (ap (λ (ds : List (List ℕ)). map (λ i. get_or ds i []) (clauses_from (suc k) cs l)) (sym (append_snoc before c cs))
    ∙ from-clauses l (suc k) (before ++ (c ∷ [])) cs (next-length before c k e))
  where
    go : (t : Bool) → map (λ i. get_or (before ++ (c ∷ cs)) i []) (clauses_from (suc k) cs l) ≡ keep_if (has l) cs
        → map (λ i. get_or (before ++ (c ∷ cs)) i []) (cond t (k ∷ clauses_from (suc k) cs l) (clauses_from (suc k) cs l))
        ≡ cond t (c ∷ keep_if (has l) cs) (keep_if (has l) cs)
    go true ih = rw (get_or_at before c cs [] k e) (ap (λ (r : List (List ℕ)). c ∷ r) ih)
    go false ih = ih

-- the clauses themselves
pub with-clauses : (cs : List (List ℕ)) (l : ℕ) → map (λ i. get_or cs i []) (clauses_with cs l) ≡ keep_if (has l) cs
unfolding clauses_with
with-clauses cs l = from-clauses l 0 [] cs refl

-- How many ------------------------------------------------------------------------------------------------------
pub with-length : (cs : List (List ℕ)) (l : ℕ) → length (clauses_with cs l) ≡ length (keep_if (has l) cs)
with-length cs l = sym (length-map (clauses_with cs l) (λ i. get_or cs i [])) ∙ ap length (with-clauses cs l)

from-below : (l k m : ℕ) (cs : List (List ℕ)) → m ≡ k + length cs → all_of (λ i. ltb i m) (clauses_from k cs l) ≡ true
unfolding clauses_from all_of
from-below l k m [] e = refl
from-below l k m (c ∷ cs) e = go (has l c) (from-below l (suc k) m cs (omega arith))
  where
    go : (t : Bool) → all_of (λ i. ltb i m) (clauses_from (suc k) cs l) ≡ true
        → all_of (λ i. ltb i m) (cond t (k ∷ clauses_from (suc k) cs l) (clauses_from (suc k) cs l)) ≡ true
    go true ih = rw (lt-ltb k m (omega arith)) ih
    go false ih = ih

-- each is the number of a clause
pub with-below : (cs : List (List ℕ)) (l : ℕ) → all_of (λ i. ltb i (length cs)) (clauses_with cs l) ≡ true
unfolding clauses_with
with-below cs l = from-below l 0 (length cs) cs (omega arith)

pub with_at : (cs : List (List ℕ)) (l j : ℕ) → j < length (clauses_with cs l) → get_or (clauses_with cs l) j 0 < length cs
with_at cs l j h =
    ltb-true (get_or (clauses_with cs l) j 0) (length cs) (all_get_d (λ i. ltb i (length cs)) 0 (clauses_with cs l) j (with-below cs l) h)

-- the literal occurs exactly if there are some
kept-some : (l : ℕ) (cs : List (List ℕ)) → any_of (has l) cs ≡ not (eqb (length (keep_if (has l) cs)) 0)
unfolding any_of keep_if
kept-some l [] = refl
kept-some l (c ∷ cs) = go (has l c) (kept-some l cs)
  where
    go : (t : Bool) → any_of (has l) cs ≡ not (eqb (length (keep_if (has l) cs)) 0)
        → (t || any_of (has l) cs) ≡ not (eqb (length (cond t (c ∷ keep_if (has l) cs) (keep_if (has l) cs))) 0)
    go true ih = sym (ap not (ne_eqb (suc (length (keep_if (has l) cs))) 0 (λ z. omega arith)))
    go false ih = ih

pub with-some : (cs : List (List ℕ)) (l : ℕ) → any_of (has l) cs ≡ not (eqb (length (clauses_with cs l)) 0)
with-some cs l = kept-some l cs ∙ ap (λ (n : ℕ). not (eqb n 0)) (sym (with-length cs l))

-- Of two lists of clauses, one after the other ------------------------------------------------------------------
pub from-append : (l k : ℕ) (ds bs : List (List ℕ)) → clauses_from k (ds ++ bs) l ≡ clauses_from k ds l ++ clauses_from (k + length ds) bs l
unfolding clauses_from
from-append l k [] bs = rw (add-zero k)
from-append l k (c ∷ ds) bs =
    go (has l c)
    (from-append l (suc k) ds bs
    ∙ ap (λ (n : ℕ). clauses_from (suc k) ds l ++ clauses_from n bs l) (suc-add k (length ds) ∙ sym (add-suc k (length ds))))
  where
    go : (t : Bool) → clauses_from (suc k) (ds ++ bs) l ≡ clauses_from (suc k) ds l ++ clauses_from (k + suc (length ds)) bs l
        → cond t (k ∷ clauses_from (suc k) (ds ++ bs) l) (clauses_from (suc k) (ds ++ bs) l)
        ≡ cond t (k ∷ clauses_from (suc k) ds l) (clauses_from (suc k) ds l) ++ clauses_from (k + suc (length ds)) bs l
    go true ih = ap (λ (r : List ℕ). k ∷ r) ih
    go false ih = ih
