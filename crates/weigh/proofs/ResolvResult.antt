-- The result of resolve, resolvent by resolvent.
-- Assumes nothing.
use Prim.Native.Nat.{ℕ, ◌+◌, ◌≤◌, ◌<◌}
use mathlib.Core.Path.{◌≡◌, refl, sym, ap, ◌∙◌}
use mathlib.Core.Bool.{Bool, true, false, ◌&&◌, ◌||◌, not, cond}
use mathlib.Core.List.{List, [], ◌∷◌, ◌++◌}
use lib.ListN.{length, get_or, take, drop, take-append-drop}
use lib.Seq.{take-length}
use native.Mathlib.Omega.{arith}
use Rattle.meaning.specs.Lists.{all_of, any_of, keep_if, same}
use Rattle.meaning.specs.Formula.{Formula, is_var, mentions, plain, negated}
use Rattle.meaning.specs.Tidy.{ascending, both_phases, stays, reduce, dropped, kept, tidy_sorted, tidy, add_tidied, build_on, build, tidied}
use Rattle.meaning.specs.WellFormed.{bound, tidy_clause, distinct, well_formed, weight}
use Rattle.rules.specs.Eliminate.{with_lit, without_var, resolve_raw}
use Rattle.rules.specs.Entry.{resolve}
use Rattle.rules.specs.Step.{raw_of, result_of}
use Rattle.resolvents.specs.Resolvent.{resolvent}
use Rattle.weigh.specs.Resolving.{rest_of, stay_of, raw_resolvents, pairs, resolved_to, positive_at, negative_at, resolvent_at, came_before}
use Rattle.meaning.proofs.Basics.{clash, false_of, and_l, and_r, and_i, not-true}
use Rattle.meaning.proofs.Lists.{all_append, all-all, all-le, all-kept, all-keep-le, any-keep-le, any-ascending}
use Rattle.meaning.proofs.Parts.{good_of, tidy_of, distinct_of, ascends-of, reduced-of}
use Rattle.meaning.proofs.Again.{build-same}
use Rattle.meaning.proofs.TidyPrefix.{reduced-drop, tidy-drop}
use Rattle.meaning.proofs.Clauses.{drop-not}
use Rattle.rules.proofs.Good.{good-drop}
use Rattle.rules.proofs.Expand.{bound-not}
use Rattle.rules.proofs.Raws.{resolve-ok}
use Rattle.table.proofs.LoopLaws.{all_get_d}
use Rattle.sides.proofs.SideLaws.{same_kept}
use Rattle.weigh.proofs.ResolvBuild.{build-append, build-next, any-built, build-grows}
use Rattle.weigh.proofs.ResolvPairs.{pair-at}

-- The clauses that stay ------------------------------------------------------------------------------------------------
distinct-keep : (t : List ℕ → Bool) (cs : List (List ℕ)) → distinct cs ≡ true → distinct (keep_if t cs) ≡ true
unfolding distinct keep_if
distinct-keep t [] h = refl
distinct-keep t (c ∷ cs) h = go (t c) (distinct-keep t cs (and_r (not (any_of (same c) cs)) (distinct cs) h))
  where
    go : (b : Bool) → distinct (keep_if t cs) ≡ true → distinct (cond b (c ∷ keep_if t cs) (keep_if t cs)) ≡ true
    go true ih =
        and_i (not (any_of (same c) (keep_if t cs))) (distinct (keep_if t cs))
        (ap not (false_of (any_of (same c) (keep_if t cs))
        (λ k. clash (any-keep-le (same c) t cs k) (not-true (any_of (same c) cs) (and_l (not (any_of (same c) cs)) (distinct cs) h))))) ih
    go false ih = ih

-- A resolvent does not have the variable -------------------------------------------------------------------------------
tidied-out : (p raw : List ℕ) (v : ℕ) → mentions raw v ≡ false → (c : List ℕ) → tidy p raw ≡ kept c → mentions c v ≡ false
unfolding tidy tidy_sorted reduce mentions
tidied-out p raw v out c e = go (both_phases (ascending raw)) e
  where
    go : (b : Bool) → cond b dropped (kept (keep_if (stays p (ascending raw)) (ascending raw))) ≡ kept c → any_of (is_var v) c ≡ false
    go true d = let z : ◌≡◌ {A = ℕ} 0 1 = cc in absurd (omega arith)
    go false d =
        let s : keep_if (stays p (ascending raw)) (ascending raw) ≡ c = cc in
        false_of (any_of (is_var v) c)
        (λ k. clash (any-keep-le (is_var v) (stays p (ascending raw)) (ascending raw) (rw s k)) (any-ascending (is_var v) raw ∙ out))

module _ (φ : Formula) (w : well_formed φ ≡ true) (a : ℕ) where
  -- all clauses of the result are over the prefix that is left
  all-bound : (all_of (bound (rest_of φ a)) (stay_of φ a) && all_of (bound (rest_of φ a)) (raw_resolvents φ a)) ≡ true
  unfolding raw_resolvents resolve_raw
  all-bound = sym (all_append (bound (rest_of φ a)) (stay_of φ a) (raw_resolvents φ a)) ∙ (resolve-ok φ w a).1

  base-bound : all_of (bound (rest_of φ a)) (stay_of φ a) ≡ true
  base-bound = and_l (all_of (bound (rest_of φ a)) (stay_of φ a)) (all_of (bound (rest_of φ a)) (raw_resolvents φ a)) all-bound

  pub raws-bound : all_of (bound (rest_of φ a)) (raw_resolvents φ a) ≡ true
  raws-bound = and_r (all_of (bound (rest_of φ a)) (stay_of φ a)) (all_of (bound (rest_of φ a)) (raw_resolvents φ a)) all-bound

  pub raw-free : (raw : List ℕ) → bound (rest_of φ a) raw ≡ true → mentions raw a ≡ false
  raw-free raw b = bound-not (rest_of φ a) raw b a (drop-not a φ.prefix)

  -- a clause that stays is tidy under the prefix that is left
  stays-tidy : (c : List ℕ) → (bound (rest_of φ a) c && (tidy_clause φ.prefix c && not (mentions c a))) ≡ true → tidy_clause (rest_of φ a) c ≡ true
  unfolding tidy_clause
  stays-tidy c h =
      let t : tidy_clause φ.prefix c ≡ true = search (and_l, and_r) in
      let out : mentions c a ≡ false = search (and_r, not-true) in
      rw (ascends-of φ.prefix c t, reduced-drop a φ.prefix c out, reduced-of φ.prefix c t, and_l (bound (rest_of φ a) c) _ h)

  base-tidy : all_of (tidy_clause (rest_of φ a)) (stay_of φ a) ≡ true
  base-tidy =
      all-le (λ c. bound (rest_of φ a) c && (tidy_clause φ.prefix c && not (mentions c a))) (tidy_clause (rest_of φ a)) (stay_of φ a) stays-tidy
      (all-all (bound (rest_of φ a)) (λ c. tidy_clause φ.prefix c && not (mentions c a)) (stay_of φ a) base-bound
      (all-all (tidy_clause φ.prefix) (λ c. not (mentions c a)) (stay_of φ a)
      (unfold without_var in all-keep-le (tidy_clause φ.prefix) (λ c. not (mentions c a)) φ.clauses (tidy_of φ w))
      (unfold without_var in all-kept (λ c. not (mentions c a)) φ.clauses)))

  base-built : build (rest_of φ a) (stay_of φ a) ≡ stay_of φ a
  base-built =
      build-same (record { prefix = rest_of φ a; clauses = stay_of φ a })
      (unfold well_formed in rw (good-drop a φ.prefix (good_of φ w), base-tidy)
      (unfold without_var in distinct-keep (λ c. not (mentions c a)) φ.clauses (distinct_of φ w)))

  -- the whole result is there after all pairs
  pub result-is : result_of φ resolve a 0 ≡ resolved_to φ a (pairs φ a)
  unfolding result_of raw_of resolve_raw tidied resolved_to pairs raw_resolvents
  result-is = λ i. record { prefix = rest_of φ a; clauses = all i }
    where
      all : build (rest_of φ a) (stay_of φ a ++ raw_resolvents φ a)
          ≡ build_on (rest_of φ a) (stay_of φ a) (take (length (raw_resolvents φ a)) (raw_resolvents φ a))
      all =
          rw (take-length (raw_resolvents φ a))
          (unfold build in build-append (rest_of φ a) [] (stay_of φ a) (raw_resolvents φ a)
          ∙ ap (λ (cs : List (List ℕ)). build_on (rest_of φ a) cs (raw_resolvents φ a)) base-built)

  -- One pair ---------------------------------------------------------------------------------------------------------
  module _ (k : ℕ) (h : k < pairs φ a) where
    pair-raw : get_or (raw_resolvents φ a) k [] ≡ resolvent a (positive_at φ a k) (negative_at φ a k)
    unfolding raw_resolvents positive_at negative_at
    pair-raw = pair-at a (with_lit (plain a) φ.clauses) (with_lit (negated a) φ.clauses) k (unfold pairs raw_resolvents in h)

    pair-out : mentions (resolvent a (positive_at φ a k) (negative_at φ a k)) a ≡ false
    pair-out =
        bound-not (rest_of φ a) (resolvent a (positive_at φ a k) (negative_at φ a k))
        (rw (← pair-raw) (all_get_d (bound (rest_of φ a)) [] (raw_resolvents φ a) k raws-bound (unfold pairs in h)))
        a (drop-not a φ.prefix)

    -- it may be tidied by the old prefix
    pair-tidied : tidy φ.prefix (resolvent a (positive_at φ a k) (negative_at φ a k)) ≡ resolvent_at φ a k
    unfolding resolvent_at
    pair-tidied = sym (tidy-drop a φ.prefix (resolvent a (positive_at φ a k) (negative_at φ a k)) pair-out)

    pub pair_made : (x y : List ℕ) → x ≡ positive_at φ a k → y ≡ negative_at φ a k → tidy φ.prefix (resolvent a x y) ≡ resolvent_at φ a k
    pair_made x y e d = rw (e, d) pair-tidied

    pub pair-free : (c : List ℕ) → resolvent_at φ a k ≡ kept c → mentions c a ≡ false
    unfolding resolvent_at
    pair-free c e = tidied-out (rest_of φ a) (resolvent a (positive_at φ a k) (negative_at φ a k)) a pair-out c e

    pub resolved-next : (resolved_to φ a (k + 1)).clauses ≡ add_tidied (resolved_to φ a k).clauses (resolvent_at φ a k)
    unfolding resolved_to resolvent_at
    resolved-next = build-next (rest_of φ a) (stay_of φ a) (raw_resolvents φ a) k (unfold pairs in h) ∙ rw pair-raw

  -- What is there after k pairs ---------------------------------------------------------------------------------------
  base_same : (c : List ℕ) → mentions c a ≡ false → any_of (same c) (stay_of φ a) ≡ any_of (same c) φ.clauses
  unfolding without_var
  base_same c out = same_kept (λ d. not (mentions d a)) c φ.clauses (ap not out)

  there-is : (k : ℕ) (c : List ℕ) → mentions c a ≡ false
      → any_of (same c) (resolved_to φ a k).clauses ≡ (any_of (same c) φ.clauses || came_before φ a k c)
  unfolding resolved_to came_before
  there-is k c out =
      any-built (rest_of φ a) c (stay_of φ a) (take k (raw_resolvents φ a))
      ∙ rw (base_same c out)

  module _ (k : ℕ) (c : List ℕ) (out : mentions c a ≡ false) (b : Bool) (is : b ≡ any_of (same c) φ.clauses) where
    pub there-first : b ≡ true → true ≡ any_of (same c) (resolved_to φ a k).clauses
    there-first e = sym (there-is k c out ∙ rw (← is, e))

    pub there-later : b ≡ false → (r : Bool) → r ≡ came_before φ a k c → r ≡ any_of (same c) (resolved_to φ a k).clauses
    there-later e r q = q ∙ sym (there-is k c out ∙ rw (← is, e))

  -- the later resolvents only add
  pub resolved-grows : (k : ℕ) → weight (resolved_to φ a k) ≤ weight (result_of φ resolve a 0)
  unfolding weight resolved_to
  resolved-grows k =
      rw (result-is, more) (omega (
        arith,
        build-grows (rest_of φ a) (build_on (rest_of φ a) (stay_of φ a) (take k (raw_resolvents φ a)))
            (drop k (raw_resolvents φ a)),
      ))
    where
      more : build_on (rest_of φ a) (stay_of φ a) (take (pairs φ a) (raw_resolvents φ a))
          ≡ build_on (rest_of φ a) (build_on (rest_of φ a) (stay_of φ a) (take k (raw_resolvents φ a))) (drop k (raw_resolvents φ a))
      more =
          unfold pairs in
          ap (build_on (rest_of φ a) (stay_of φ a)) (take-length (raw_resolvents φ a) ∙ sym (take-append-drop k (raw_resolvents φ a)))
          ∙ build-append (rest_of φ a) (stay_of φ a) (take k (raw_resolvents φ a)) (drop k (raw_resolvents φ a))
