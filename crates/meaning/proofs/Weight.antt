-- To build clauses adds no weight. Assumes nothing.
use mathlib.Core.Path.{◌≡◌}
use Prim.Native.Nat.{ℕ, suc, ◌+◌, ◌≤◌}
use mathlib.Core.Bool.{Bool, true, false, cond}
use mathlib.Core.List.{List, [], ◌∷◌, ◌++◌}
use native.Mathlib.Omega.{arith}
use lib.Dec.{eqb, ltb}
use lib.ListN.{length, length-append}
use Rattle.meaning.specs.Lists.{any_of, keep_if, same}
use Rattle.meaning.specs.Formula.{Formula}
use Rattle.meaning.specs.WellFormed.{literals, weight}
use Rattle.meaning.specs.Tidy.{insert_new, ascending, both_phases, dropped, kept, tidy_sorted, tidy, add_tidied, build_on, build, tidied, reduce, stays}

pub keep-length : {A : Type 0} (t : A → Bool) (c : List A) → length (keep_if t c) ≤ length c
unfolding keep_if
keep-length t [] = omega arith
keep-length t (x ∷ c) = go (t x) (keep-length t c)
  where
    go : (s : Bool) → length (keep_if t c) ≤ length c → length (cond s (x ∷ keep_if t c) (keep_if t c)) ≤ suc (length c)
    go true h = omega arith
    go false h = omega arith

insert-length : (l : ℕ) (c : List ℕ) → length (insert_new l c) ≤ suc (length c)
unfolding insert_new
insert-length l [] = omega arith
insert-length l (k ∷ c) = go (ltb l k) (eqb l k) (insert-length l c)
  where
    go : (s t : Bool) → length (insert_new l c) ≤ suc (length c) → length (cond s (l ∷ k ∷ c) (cond t (k ∷ c) (k ∷ insert_new l c))) ≤ suc (suc (length c))
    go true t h = omega arith
    go false true h = omega arith
    go false false h = omega arith

pub ascending-length : (c : List ℕ) → length (ascending c) ≤ length c
unfolding ascending
ascending-length [] = omega arith
ascending-length (l ∷ c) = let h : length (ascending c) ≤ length c = ascending-length c in omega (arith, insert-length l (ascending c))

pub reduce-length : (p c : List ℕ) → length (reduce p c) ≤ length c
unfolding reduce
reduce-length p c = keep-length (stays p c) c

pub literals-append : (cs ds : List (List ℕ)) → literals (cs ++ ds) ≡ literals cs + literals ds
unfolding literals
literals-append [] ds = omega arith
literals-append (c ∷ cs) ds = let h : literals (cs ++ ds) ≡ literals cs + literals ds = literals-append cs ds in omega arith

-- What is built has no more clauses and no more literals than the raw clauses ---------------------------------
abbrev pub Less : List (List ℕ) → List (List ℕ) → Type 0
Less cs ds = (length cs ≤ length ds) × (literals cs ≤ literals ds)

add-less : (p : List ℕ) (cs : List (List ℕ)) (c : List ℕ)
    → (length (add_tidied cs (tidy p c)) ≤ suc (length cs)) × (literals (add_tidied cs (tidy p c)) ≤ literals cs + length c)
unfolding tidy tidy_sorted add_tidied
add-less p cs c = go (both_phases (ascending c))
  where
    d : List ℕ
    d = reduce p (ascending c)

    pick : (t : Bool) → (length (cond t cs (cs ++ (d ∷ []))) ≤ suc (length cs)) × (literals (cond t cs (cs ++ (d ∷ []))) ≤ literals cs + length c)
    pick true = (omega arith, omega arith)
    pick false = (omega (arith, length-append cs (d ∷ [])), unfold literals in omega (arith, literals-append cs (d ∷ []), reduce-length p (ascending c), ascending-length c))

    go : (s : Bool)
        → (length (add_tidied cs (cond s dropped (kept d))) ≤ suc (length cs)) × (literals (add_tidied cs (cond s dropped (kept d))) ≤ literals cs + length c)
    go true = (omega arith, omega arith)
    go false = pick (any_of (same d) cs)

build_on-less : (p : List ℕ) (cs raws : List (List ℕ))
    → (length (build_on p cs raws) ≤ length cs + length raws) × (literals (build_on p cs raws) ≤ literals cs + literals raws)
unfolding build_on literals
build_on-less p cs [] = (omega arith, omega arith)
build_on-less p cs (c ∷ raws) =
    let h = build_on-less p (add_tidied cs (tidy p c)) raws in
    let k = add-less p cs c in
    (omega (arith, h.0, k.0), omega (arith, h.1, k.1))

pub build-less : (p : List ℕ) (raws : List (List ℕ)) → Less (build p raws) raws
unfolding build literals
build-less p raws = let h = build_on-less p [] raws in (omega (arith, h.0), omega (arith, h.1))

-- clauses and literals of a list of clauses
abbrev pub size : List (List ℕ) → ℕ
size cs = length cs + literals cs

-- the weight of what is built is at most that of the raw clauses
pub tidied-weight : (r : Formula) → weight (tidied r) ≤ weight r
unfolding tidied weight
tidied-weight r = let h = build-less r.prefix r.clauses in omega (arith, h.0, h.1)
