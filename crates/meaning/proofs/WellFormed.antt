-- What is built of clauses over a good prefix is well formed. Assumes nothing.
use mathlib.Core.Path.{◌≡◌, refl, sym, ◌∙◌, ap, ap₂, subst}
use Prim.Native.Nat.{ℕ, ◌+◌, ◌*◌, ◌/◌, ◌%◌, ◌<◌, ◌≤◌}
use mathlib.Core.Bool.{Bool, true, false, ◌&&◌, ◌||◌, not, cond}
use mathlib.Core.List.{List, [], ◌∷◌, ◌++◌}
use native.Mathlib.Omega.{arith}
use lib.Dec.{eqb, ltb, ltb→lt, lt→ltb, nltb→le}
use Rattle.meaning.specs.Lists.{all_of, any_of, keep_if, has, same}
use Rattle.meaning.specs.Formula.{Formula, var, odd, opposite, is_var, mentions, existential, universal, any_exist, right_of}
use Rattle.meaning.specs.Tidy.{insert_new, ascending, both_phases, stays, reduce, dropped, kept, tidy_sorted, tidy, add_tidied, build_on, build, tidied}
use Rattle.meaning.specs.WellFormed.{ascends, reduced, bound, tidy_clause, good_prefix, distinct, well_formed}
use Rattle.meaning.proofs.Basics.{by_cases, clash, false_of, and_l, and_r, and_i, or_l, or_r, or-il, or-ir, or_elim, not-true, T_of, of_T, eqb-self, eqb-true, eqb-false}
use Rattle.meaning.proofs.Literals.{odd_is, even_is, opp-even, plain-is}
use Rattle.meaning.proofs.Lists.{any_append, all_append, any-keep-le, all-keep-le, all-kept, any-ascending, any-has, all-has, all-of-has, has-keep, any-witness, all-le, same_turn}
use Rattle.meaning.proofs.Prefix.{one-kind, right-any}

-- What is reduced is reduced ----------------------------------------------------------------------------------
-- no literal of an existential is removed
exist-stays : (p c : List ℕ) → good_prefix p ≡ true → (l : ℕ) → existential p (var l) ≡ true → stays p c l ≡ true
unfolding stays
exist-stays p c good l e = or-il (not (universal p (var l))) (any_exist (right_of (var l) p) c) (ap not (one-kind p good (var l) e))

exist-kept : (p c : List ℕ) → good_prefix p ≡ true → (v : ℕ) → existential p v ≡ true → mentions c v ≡ true → mentions (reduce p c) v ≡ true
unfolding mentions reduce is_var
exist-kept p c good v e m =
    let w : (l : ℕ) × (has l c ≡ true) × (eqb (var l) v ≡ true) = any-witness (λ l. eqb (var l) v) c m in
    any-has (λ l. eqb (var l) v) (keep_if (stays p c) c) w.0
    (has-keep (stays p c) c w.0 w.1 (exist-stays p c good w.0 (subst (λ (x : ℕ). existential p x ≡ true) (sym (eqb-true (var w.0) v w.2)) e)))
    w.2

-- so an existential of the clause to the right stays to the right
right_kept : (p c : List ℕ) → good_prefix p ≡ true → (v : ℕ) → any_exist (right_of v p) c ≡ true → any_exist (right_of v p) (reduce p c) ≡ true
unfolding any_exist
right_kept p c good v h =
    let w : (q : ℕ) × (has q (right_of v p) ≡ true) × ((not (odd q) && mentions c (var q)) ≡ true) = any-witness (λ q. not (odd q) && mentions c (var q)) (right_of v p) h in
    let even : odd w.0 ≡ false = not-true (odd w.0) (and_l (not (odd w.0)) (mentions c (var w.0)) w.2) in
    any-has (λ q. not (odd q) && mentions (reduce p c) (var q)) (right_of v p) w.0 w.1
    (and_i (not (odd w.0)) (mentions (reduce p c) (var w.0)) (ap not even)
    (exist-kept p c good (var w.0) (is-existential w.0 w.1 even) (and_r (not (odd w.0)) (mentions c (var w.0)) w.2)))
  where
    is-existential : (q : ℕ) → has q (right_of v p) ≡ true → odd q ≡ false → existential p (var q) ≡ true
    is-existential q i even = unfold existential has in subst (λ (k : ℕ). any_of (λ x. eqb k x) p ≡ true) (plain-is q even) (right-any (λ x. eqb q x) v p (unfold has in i))

pub reduce_reduced : (p c : List ℕ) → good_prefix p ≡ true → reduced p (reduce p c) ≡ true
unfolding reduced
reduce_reduced p c good =
    all-le (stays p c) (stays p (reduce p c)) (reduce p c)
    (λ l h. unfold stays in or_elim (not (universal p (var l))) (any_exist (right_of (var l) p) c) (unfold stays in h)
    (λ e. or-il (not (universal p (var l))) (any_exist (right_of (var l) p) (reduce p c)) e)
    (λ e. or-ir (not (universal p (var l))) (any_exist (right_of (var l) p) (reduce p c)) (right_kept p c good (var l) e)))
    (unfold reduce in all-kept (stays p c) c)

-- Ascending --------------------------------------------------------------------------------------------------
rises : List ℕ → Bool
rises [] = true
rises (l ∷ c) = all_of (λ k. ltb l k) c && rises c

lt_of : (m n : ℕ) → ltb m n ≡ true → m < n
lt_of m n h = ltb→lt m n (T_of (ltb m n) h)

of_lt : (m n : ℕ) → m < n → ltb m n ≡ true
of_lt m n h = of_T (ltb m n) (lt→ltb m n h)

ge-of : (m n : ℕ) → ltb m n ≡ false → n ≤ m
ge-of m n h = nltb→le m n (T_of (not (ltb m n)) (ap not h))

insert-above : (j l : ℕ) (c : List ℕ) → ltb j l ≡ true → all_of (λ k. ltb j k) c ≡ true → all_of (λ k. ltb j k) (insert_new l c) ≡ true
unfolding all_of insert_new
insert-above j l [] h a = ap (λ (b : Bool). b && true) h
insert-above j l (k ∷ c) h a = go (ltb l k) (eqb l k) (insert-above j l c h (search and_r))
  where
    go : (s t : Bool) → all_of (λ k. ltb j k) (insert_new l c) ≡ true → all_of (λ k. ltb j k) (cond s (l ∷ k ∷ c) (cond t (k ∷ c) (k ∷ insert_new l c))) ≡ true
    go true t ih = and_i (ltb j l) (ltb j k && all_of (λ k. ltb j k) c) h a
    go false true ih = a
    go false false ih = and_i (ltb j k) (all_of (λ k. ltb j k) (insert_new l c)) (search and_l) ih

insert-rises : (l : ℕ) (c : List ℕ) → rises c ≡ true → rises (insert_new l c) ≡ true
unfolding rises insert_new all_of
insert-rises l [] h = refl
insert-rises l (k ∷ c) h = go (ltb l k) (eqb l k) refl refl (insert-rises l c (search and_r))
  where
    above : all_of (λ i. ltb k i) c ≡ true
    above = and_l (all_of (λ i. ltb k i) c) (rises c) h

    go : (s t : Bool) → ltb l k ≡ s → eqb l k ≡ t → rises (insert_new l c) ≡ true → rises (cond s (l ∷ k ∷ c) (cond t (k ∷ c) (k ∷ insert_new l c))) ≡ true
    go true t e d ih =
        and_i (ltb l k && all_of (λ i. ltb l i) c) (all_of (λ i. ltb k i) c && rises c)
        (and_i (ltb l k) (all_of (λ i. ltb l i) c) e (all-le (λ i. ltb k i) (λ i. ltb l i) c (λ i x. of_lt l i (let y : k < i = lt_of k i x in let z : l < k = lt_of l k e in omega arith)) above)) h
    go false true e d ih = h
    go false false e d ih =
        and_i (all_of (λ i. ltb k i) (insert_new l c)) (rises (insert_new l c))
        (insert-above k l c (of_lt k l (let x : k ≤ l = ge-of l k e in let y : (l ≡ k → ⊥) = eqb-false l k d in omega arith)) above) ih

ascending-rises : (c : List ℕ) → rises (ascending c) ≡ true
unfolding rises ascending
ascending-rises [] = refl
ascending-rises (l ∷ c) = insert-rises l (ascending c) (ascending-rises c)

-- without both phases the variables ascend too
above-var : (l k : ℕ) → l < k → (k ≡ opposite l → ⊥) → var l < var k
unfolding var
above-var l k h d =
    by_cases (odd l)
    (λ o. let x : l % 2 ≡ 1 = odd_is l o in omega arith)
    (λ o. let x : l % 2 ≡ 0 = even_is l o in let y : opposite l ≡ 2 * (l / 2) + 1 = opp-even l o in let z : (k ≡ l + 1 → ⊥) = (λ e. d (e ∙ (plus_one o ∙ sym y))) in omega arith)
  where
    plus_one : odd l ≡ false → l + 1 ≡ 2 * (l / 2) + 1
    plus_one o = ap (λ (n : ℕ). n + 1) (plain-is l o)

rises-ascends : (c : List ℕ) → rises c ≡ true → ((l : ℕ) → has l c ≡ true → has (opposite l) c ≡ false) → ascends c ≡ true
unfolding rises ascends has any_of
rises-ascends [] r once = refl
rises-ascends (l ∷ c) r once =
    and_i (all_of (λ k. ltb (var l) (var k)) c) (ascends c)
    (all-of-has (λ k. ltb (var l) (var k)) c
    (λ k h. of_lt (var l) (var k) (above-var l k (lt_of l k (all-has (λ k. ltb l k) c k (search and_l) h))
    (λ e. clash (subst (λ (i : ℕ). has i c ≡ true) e h) (or_r (eqb (opposite l) l) (has (opposite l) c) (once l (or-il (eqb l l) (has l c) (eqb-self l))))))))
    (rises-ascends c (search and_r) (λ i h. or_r (eqb (opposite i) l) (has (opposite i) c) (once i (or-ir (eqb i l) (has i c) h))))

keep-ascends : (t : ℕ → Bool) (c : List ℕ) → ascends c ≡ true → ascends (keep_if t c) ≡ true
unfolding ascends keep_if
keep-ascends t [] h = refl
keep-ascends t (l ∷ c) h =
    by_cases (t l)
    (λ e. ap (λ (b : Bool). ascends (cond b (l ∷ keep_if t c) (keep_if t c))) e
    ∙ and_i (all_of (λ k. ltb (var l) (var k)) (keep_if t c)) (ascends (keep_if t c)) (all-keep-le (λ k. ltb (var l) (var k)) t c (search and_l)) (keep-ascends t c (search and_r)))
    (λ e. ap (λ (b : Bool). ascends (cond b (l ∷ keep_if t c) (keep_if t c))) e ∙ keep-ascends t c (search and_r))

-- A tidied clause is tidy ------------------------------------------------------------------------------------
pub reduce-tidy : (p c : List ℕ) → good_prefix p ≡ true → bound p c ≡ true → both_phases (ascending c) ≡ false → tidy_clause p (reduce p (ascending c)) ≡ true
unfolding tidy_clause bound both_phases has
reduce-tidy p c good b no_both =
    and_i (ascends d) (bound p d && reduced p d)
    (unfold reduce in keep-ascends (stays p (ascending c)) (ascending c) (rises-ascends (ascending c) (ascending-rises c) (λ l h. false_of (has (opposite l) (ascending c)) (λ k. clash (any-has (λ l. has (opposite l) (ascending c)) (ascending c) l h k) no_both))))
    (and_i (bound p d) (reduced p d)
    (all-of-has (λ l. mentions p (var l)) d (λ k h. all-has (λ l. mentions p (var l)) c k b (sym (any-ascending (λ y. eqb k y) c) ∙ (unfold reduce in any-keep-le (λ y. eqb k y) (stays p (ascending c)) (ascending c) h))))
    (reduce_reduced p (ascending c) good))
  where
    d : List ℕ
    d = reduce p (ascending c)

-- Distinct ---------------------------------------------------------------------------------------------------
pub distinct_more : (cs : List (List ℕ)) (c : List ℕ) → distinct cs ≡ true → any_of (same c) cs ≡ false → distinct (cs ++ (c ∷ [])) ≡ true
unfolding distinct any_of
distinct_more [] c h n = refl
distinct_more (b ∷ cs) c h n =
    and_i (not (any_of (same b) (cs ++ (c ∷ [])))) (distinct (cs ++ (c ∷ [])))
    (ap not (any_append (same b) cs (c ∷ []) ∙ ap₂ ◌||◌ (not-true (any_of (same b) cs) (search and_l)) (ap (λ (x : Bool). x || false) (same_turn c b (or_l (same c b) (any_of (same c) cs) n)))))
    (distinct_more cs c (search and_r) (or_r (same c b) (any_of (same c) cs) n))

-- Building ---------------------------------------------------------------------------------------------------
abbrev pub Fine : List ℕ → List (List ℕ) → Type 0
Fine p cs = (all_of (tidy_clause p) cs ≡ true) × (distinct cs ≡ true)

add-fine : (p : List ℕ) → good_prefix p ≡ true → (cs : List (List ℕ)) (c : List ℕ) → bound p c ≡ true → Fine p cs → Fine p (add_tidied cs (tidy p c))
unfolding tidy tidy_sorted add_tidied
add-fine p good cs c b fine =
    by_cases (both_phases (ascending c))
    (λ h. subst (λ (s : Bool). Fine p (add_tidied cs (cond s dropped (kept (reduce p (ascending c)))))) (sym h) fine)
    (λ h. subst (λ (s : Bool). Fine p (add_tidied cs (cond s dropped (kept (reduce p (ascending c)))))) (sym h)
    (by_cases (any_of (same (reduce p (ascending c))) cs)
    (λ e. subst (λ (s : Bool). Fine p (cond s cs (cs ++ (reduce p (ascending c) ∷ [])))) (sym e) fine)
    (λ e. subst (λ (s : Bool). Fine p (cond s cs (cs ++ (reduce p (ascending c) ∷ [])))) (sym e) (
      all_append (tidy_clause p) cs (reduce p (ascending c) ∷ []) ∙ and_i (all_of (tidy_clause p) cs) (all_of (tidy_clause p) (reduce p (ascending c) ∷ [])) fine.0 (unfold all_of in ap (λ (s : Bool). s && true) (reduce-tidy p c good b h)),
      distinct_more cs (reduce p (ascending c)) fine.1 e,
    ))))

build_on-fine : (p : List ℕ) → good_prefix p ≡ true → (cs raws : List (List ℕ)) → all_of (bound p) raws ≡ true → Fine p cs → Fine p (build_on p cs raws)
unfolding build_on all_of
build_on-fine p good cs [] b fine = fine
build_on-fine p good cs (c ∷ raws) b fine =
    build_on-fine p good (add_tidied cs (tidy p c)) raws (search and_r) (add-fine p good cs c (search and_l) fine)

-- over a good prefix, clauses of its variables become a well formed formula
pub tidied-well-formed : (r : Formula) → good_prefix r.prefix ≡ true → all_of (bound r.prefix) r.clauses ≡ true → well_formed (tidied r) ≡ true
unfolding tidied well_formed build
tidied-well-formed r good b =
    let fine : Fine r.prefix (build_on r.prefix [] r.clauses) = build_on-fine r.prefix good [] r.clauses b (unfold all_of in refl, unfold distinct in refl) in
    and_i (good_prefix r.prefix) (all_of (tidy_clause r.prefix) (build_on r.prefix [] r.clauses) && distinct (build_on r.prefix [] r.clauses)) good
    (and_i (all_of (tidy_clause r.prefix) (build_on r.prefix [] r.clauses)) (distinct (build_on r.prefix [] r.clauses)) fine.0 fine.1)
