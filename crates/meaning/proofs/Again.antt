-- What is tidy stays as it is: to tidy a well formed formula changes nothing. Assumes nothing.
use mathlib.Core.Path.{◌≡◌, refl, sym, ◌∙◌, ap, ap₂, subst}
use Prim.Native.Nat.{ℕ, ◌/◌, ◌<◌}
use mathlib.Core.Bool.{Bool, true, false, ◌||◌, cond}
use mathlib.Core.List.{List, [], ◌∷◌, ◌++◌, append_assoc, append-nil}
use native.Mathlib.Omega.{arith}
use lib.Dec.{eqb, ltb, ltb→lt, lt→ltb}
use Rattle.meaning.specs.Lists.{all_of, any_of, same}
use Rattle.meaning.specs.Formula.{Formula, var}
use Rattle.meaning.specs.WellFormed.{ascends, tidy_clause, distinct, well_formed, reduced}
use Rattle.meaning.specs.Tidy.{insert_new, ascending, dropped, kept, tidy_sorted, tidy, add_tidied, build_on, build, tidied, reduce, stays}
use Rattle.meaning.proofs.Basics.{and_l, and_r, or_l, or_r, not-true, T_of, of_T}
use Rattle.meaning.proofs.Lists.{keep_all, any_append, same_turn}
use Rattle.meaning.proofs.Ascends.{ascends-single}
use Rattle.meaning.proofs.Parts.{tidy_of, distinct_of, ascends-of, reduced-of}

-- an ascending clause is sorted
below : (l k : ℕ) → ltb (var l) (var k) ≡ true → ltb l k ≡ true
unfolding var
below l k h = let x : l / 2 < k / 2 = ltb→lt (l / 2) (k / 2) (T_of (ltb (l / 2) (k / 2)) h) in of_T (ltb l k) (lt→ltb l k (omega arith))

insert-first : (l : ℕ) (c : List ℕ) → all_of (λ k. ltb (var l) (var k)) c ≡ true → insert_new l c ≡ l ∷ c
unfolding insert_new all_of
insert-first l [] h = refl
insert-first l (k ∷ c) h = ap (λ (b : Bool). cond b (l ∷ k ∷ c) (cond (eqb l k) (k ∷ c) (k ∷ insert_new l c))) (below l k (search and_l))

pub ascending-same : (c : List ℕ) → ascends c ≡ true → ascending c ≡ c
unfolding ascending ascends
ascending-same [] h = refl
ascending-same (l ∷ c) h = ap (insert_new l) (ascending-same c (search and_r)) ∙ insert-first l c (search and_l)

-- a reduced clause has nothing to remove
pub reduce-same : (p c : List ℕ) → reduced p c ≡ true → reduce p c ≡ c
unfolding reduced reduce
reduce-same p c h = keep_all (stays p c) c h

-- neither has an ascending one that is reduced anything to tidy
pub tidy-stays : (p c : List ℕ) → ascends c ≡ true → reduced p c ≡ true → tidy p c ≡ kept c
unfolding tidy tidy_sorted
tidy-stays p c a r =
    ap (tidy_sorted p) (ascending-same c a)
    ∙ (ap (λ (b : Bool). cond b dropped (kept (reduce p c))) (ascends-single c a) ∙ ap kept (reduce-same p c r))

pub tidy-same : (p c : List ℕ) → tidy_clause p c ≡ true → tidy p c ≡ kept c
tidy-same p c h = tidy-stays p c (ascends-of p c h) (reduced-of p c h)

-- in a list of distinct clauses none is there before
pub distinct-new : (cs : List (List ℕ)) (c : List ℕ) (ds : List (List ℕ)) → distinct (cs ++ (c ∷ ds)) ≡ true → any_of (same c) cs ≡ false
unfolding distinct any_of
distinct-new [] c ds h = refl
distinct-new (b ∷ cs) c ds h =
    ap₂ ◌||◌ (same_turn b c (or_l (same b c) (any_of (same b) ds) (or_r (any_of (same b) cs) (any_of (same b) (c ∷ ds)) (sym (any_append (same b) cs (c ∷ ds)) ∙ not-true (any_of (same b) (cs ++ (c ∷ ds))) (search and_l)))))
    (distinct-new cs c ds (search and_r))

build_on-same : (p : List ℕ) (cs ds : List (List ℕ)) → all_of (tidy_clause p) ds ≡ true → distinct (cs ++ ds) ≡ true → build_on p cs ds ≡ cs ++ ds
unfolding build_on all_of
build_on-same p cs [] t d = sym (append-nil cs)
build_on-same p cs (c ∷ ds) t d =
    ap (λ (x : List (List ℕ)). build_on p x ds) step
    ∙ (build_on-same p (cs ++ (c ∷ [])) ds (search and_r) (subst (λ (x : List (List ℕ)). distinct x ≡ true) (sym (append_assoc cs (c ∷ []) ds)) d) ∙ append_assoc cs (c ∷ []) ds)
  where
    step : add_tidied cs (tidy p c) ≡ cs ++ (c ∷ [])
    step = ap (add_tidied cs) (tidy-same p c (search and_l)) ∙ (unfold add_tidied in ap (λ (b : Bool). cond b cs (cs ++ (c ∷ []))) (distinct-new cs c ds d))

-- to tidy a well formed formula changes nothing
pub build-same : (φ : Formula) → well_formed φ ≡ true → build φ.prefix φ.clauses ≡ φ.clauses
unfolding build
build-same φ w = build_on-same φ.prefix [] φ.clauses (tidy_of φ w) (distinct_of φ w)

pub tidied-same : (φ : Formula) → well_formed φ ≡ true → tidied φ ≡ φ
unfolding tidied
tidied-same φ w = λ i. record { prefix = φ.prefix; clauses = build-same φ w i }
