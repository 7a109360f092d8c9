-- Clauses that a step leaves as they were: they are the first of the result, and stood among the first.
-- Assumes nothing.
use Prim.Native.Nat.{ℕ, zero, suc, ◌+◌, ◌-◌, ◌*◌, ◌≤◌, ◌<◌}
use mathlib.Core.Path.{◌≡◌, refl, sym, ap, ap₂, ◌∙◌}
use mathlib.Core.Bool.{Bool, true, false, ◌&&◌, ◌||◌, not, cond}
use mathlib.Core.List.{List, [], ◌∷◌, ◌++◌, map, append-nil}
use lib.Dec.{eqb}
use lib.ListN.{length, take, drop, take-append-drop, length-append}
use lib.Seq.{take-nil, take-take, take-append-le, length-take-le}
use native.Mathlib.Omega.{arith}
use Rattle.meaning.specs.Lists.{all_of, any_of, keep_if, has, without, same}
use Rattle.meaning.specs.Formula.{Formula, var, plain, negated, opposite, mentions, universal}
use Rattle.meaning.specs.Tidy.{Tidied, dropped, kept, tidy, add_tidied, build_on, build, tidied}
use Rattle.meaning.specs.WellFormed.{tidy_clause, distinct, well_formed}
use Rattle.rules.specs.Simplify.{without_lit, assign, becomes_true, occurs, pure_lit, pure_raw, replace_at}
use Rattle.rules.specs.Eliminate.{with_lit, without_var, resolvents_of, resolvents, resolve_raw}
use Rattle.rules.specs.Entry.{pure, resolve}
use Rattle.rules.specs.Step.{raw_of, result_of}
use Rattle.index.specs.Index.{clauses_with}
use Rattle.weigh.specs.Resolving.{stay_of, raw_resolvents}
use Rattle.meaning.proofs.Basics.{by_cases, clash, false_of, and_l, and_r, and_i, or_l, or_r, or-il, or-ir, or_elim, or-false, not-true, eqb-eq}
use Rattle.meaning.proofs.Lists.{any_append, all_append, any_none, keep_all}
use Rattle.meaning.proofs.Literals.{opp-plain, opp-negated, var-of-plain, var-of-negated}
use Rattle.meaning.proofs.Weight.{keep-length}
use Rattle.meaning.proofs.Parts.{good_of, tidy_of, distinct_of}
use Rattle.meaning.proofs.Again.{build-same}
use Rattle.rules.proofs.Resolve.{mentions-lits}
use Rattle.index.proofs.ClauseLaws.{with-length, with-some}
use Rattle.weigh.proofs.ResolvBuild.{build-append}

-- The first clauses of a list -------------------------------------------------------------------------------------
module _ {A : Type 0} (f : A → Bool) where
  any-take : (n : ℕ) (cs : List A) → any_of f (take n cs) ≡ true → any_of f cs ≡ true
  any-take n cs h =
      ap (any_of f) (sym (take-append-drop n cs)) ∙ any_append f (take n cs) (drop n cs)
      ∙ or-il (any_of f (take n cs)) (any_of f (drop n cs)) h

  pub first_more : (n m : ℕ) (cs : List A) → n ≤ m → any_of f (take n cs) ≡ true → any_of f (take m cs) ≡ true
  first_more n m cs l h = any-take n (take m cs) (ap (any_of f) (take-take n m cs l) ∙ h)

  -- of those that a selection leaves: it passes over as many as it does not keep
  pub keep-first : (t : A → Bool) (cs : List A) (n m : ℕ) → n ≤ m - (length cs - length (keep_if t cs))
      → any_of f (take n (keep_if t cs)) ≡ true → any_of f (take m cs) ≡ true
  unfolding keep_if any_of
  keep-first t [] n m l h = clash h (ap (any_of f) (take-nil n))
  keep-first t (c ∷ cs) zero m l h = clash h refl
  keep-first t (c ∷ cs) (suc n) zero l h = absurd (omega arith)
  keep-first t (c ∷ cs) (suc n) (suc m) l h = go (t c) refl (λ k. keep-first t cs k m)
    where
      go : (b : Bool) → t c ≡ b → ((k : ℕ) → k ≤ m - (length cs - length (keep_if t cs)) → any_of f (take k (keep_if t cs)) ≡ true → any_of f (take m cs) ≡ true)
          → (f c || any_of f (take m cs)) ≡ true
      go true e ih =
          or_elim (f c) (any_of f (take n (keep_if t cs))) (rw e at h)
          (λ k. or-il (f c) (any_of f (take m cs)) k)
          (λ k. or-ir (f c) (any_of f (take m cs)) (ih n (let q = (rw e at l) in omega arith) k))
      go false e ih =
          or-ir (f c) (any_of f (take m cs)) (ih (suc n) (let q = (rw e at l) in let k = keep-length t cs in omega arith) (rw e at h))

-- Building: what is there first stays first -----------------------------------------------------------------------
add-first : (cs : List (List ℕ)) (x : Tidied) (n : ℕ) → n ≤ length cs → (n ≤ length (add_tidied cs x)) × (take n (add_tidied cs x) ≡ take n cs)
unfolding add_tidied
add-first cs dropped n h = (h, refl)
add-first cs (kept c) n h = go (any_of (same c) cs)
  where
    go : (b : Bool) → (n ≤ length (cond b cs (cs ++ (c ∷ [])))) × (take n (cond b cs (cs ++ (c ∷ []))) ≡ take n cs)
    go true = (h, refl)
    go false = (omega (arith, length-append cs (c ∷ [])), take-append-le n cs (c ∷ []) h)

pub build-first : (p : List ℕ) (cs raws : List (List ℕ)) (n : ℕ) → n ≤ length cs → take n (build_on p cs raws) ≡ take n cs
unfolding build_on
build-first p cs [] n h = refl
build-first p cs (r ∷ raws) n h =
    let a = add-first cs (tidy p r) n h in build-first p (add_tidied cs (tidy p r)) raws n a.0 ∙ a.1

-- Kind 3: one clause goes ------------------------------------------------------------------------------------------
module _ (f : List ℕ → Bool) where
  pub gone-first : (cs : List (List ℕ)) (b n m : ℕ) → n ≤ m - 1 → any_of f (take n (replace_at cs b [])) ≡ true → any_of f (take m cs) ≡ true
  unfolding replace_at any_of
  gone-first [] b n m l h = clash h (ap (any_of f) (take-nil n))
  gone-first (c ∷ cs) b zero m l h = clash h refl
  gone-first (c ∷ cs) b (suc n) zero l h = absurd (omega arith)
  gone-first (c ∷ cs) zero (suc n) (suc m) l h = or-ir (f c) (any_of f (take m cs)) (first_more f (suc n) m cs (omega arith) h)
  gone-first (c ∷ cs) (suc b) (suc n) (suc m) l h =
      or_elim (f c) (any_of f (take n (replace_at cs b []))) h
      (λ k. or-il (f c) (any_of f (take m cs)) k)
      (λ k. or-ir (f c) (any_of f (take m cs)) (gone-first cs b n m (omega arith) k))

  gone-any : (cs : List (List ℕ)) (b : ℕ) → any_of f (replace_at cs b []) ≡ true → any_of f cs ≡ true
  unfolding replace_at any_of
  gone-any [] b h = h
  gone-any (c ∷ cs) zero h = or-ir (f c) (any_of f cs) h
  gone-any (c ∷ cs) (suc b) h =
      or_elim (f c) (any_of f (replace_at cs b [])) h (λ k. or-il (f c) (any_of f cs) k) (λ k. or-ir (f c) (any_of f cs) (gone-any cs b k))

  pub gone-all : (cs : List (List ℕ)) (b : ℕ) → all_of f cs ≡ true → all_of f (replace_at cs b []) ≡ true
  unfolding replace_at all_of
  gone-all [] b h = h
  gone-all (c ∷ cs) zero h = and_r (f c) (all_of f cs) h
  gone-all (c ∷ cs) (suc b) h =
      and_i (f c) (all_of f (replace_at cs b [])) (and_l (f c) (all_of f cs) h) (gone-all cs b (and_r (f c) (all_of f cs) h))

pub gone-distinct : (cs : List (List ℕ)) (b : ℕ) → distinct cs ≡ true → distinct (replace_at cs b []) ≡ true
unfolding replace_at distinct
gone-distinct [] b h = h
gone-distinct (c ∷ cs) zero h = and_r (not (any_of (same c) cs)) (distinct cs) h
gone-distinct (c ∷ cs) (suc b) h =
    and_i (not (any_of (same c) (replace_at cs b []))) (distinct (replace_at cs b []))
    (ap not (false_of (any_of (same c) (replace_at cs b []))
    (λ k. clash (gone-any (same c) cs b k) (not-true (any_of (same c) cs) (and_l (not (any_of (same c) cs)) (distinct cs) h)))))
    (gone-distinct cs b (and_r (not (any_of (same c) cs)) (distinct cs) h))

-- Kind 4: the clauses before the one that is shortened stay -----------------------------------------------------------
replace-is : (cs : List (List ℕ)) (b : ℕ) (new : List (List ℕ)) → b < length cs → replace_at cs b new ≡ take b cs ++ (new ++ drop (suc b) cs)
unfolding replace_at
replace-is [] b new h = absurd (omega arith)
replace-is (c ∷ cs) zero new h = refl
replace-is (c ∷ cs) (suc b) new h = ap (λ (l : List (List ℕ)). c ∷ l) (replace-is cs b new (omega arith))

distinct-first : (xs ys : List (List ℕ)) → distinct (xs ++ ys) ≡ true → distinct xs ≡ true
unfolding distinct
distinct-first [] ys h = refl
distinct-first (c ∷ xs) ys h =
    and_i (not (any_of (same c) xs)) (distinct xs)
    (ap not (or_l (any_of (same c) xs) (any_of (same c) ys)
    (sym (any_append (same c) xs ys) ∙ not-true (any_of (same c) (xs ++ ys)) (and_l (not (any_of (same c) (xs ++ ys))) (distinct (xs ++ ys)) h))))
    (distinct-first xs ys (and_r (not (any_of (same c) (xs ++ ys))) (distinct (xs ++ ys)) h))

-- the first clauses of a well formed formula are well formed
first-well : (φ : Formula) → well_formed φ ≡ true → (b : ℕ) → well_formed (record { prefix = φ.prefix; clauses = take b φ.clauses }) ≡ true
unfolding well_formed
first-well φ w b =
    let cs = φ.clauses in
    let whole = take-append-drop b cs in
    rw (
      good_of φ w,
      and_l (all_of (tidy_clause φ.prefix) (take b cs)) (all_of (tidy_clause φ.prefix) (drop b cs))
          (sym (all_append (tidy_clause φ.prefix) (take b cs) (drop b cs)) ∙ ap (all_of (tidy_clause φ.prefix)) whole ∙ tidy_of φ w),
    )
    (distinct-first (take b cs) (drop b cs) (ap distinct whole ∙ distinct_of φ w))

pub replaced-first : (φ : Formula) → well_formed φ ≡ true → (b : ℕ) → b < length φ.clauses → (new : List (List ℕ)) (n : ℕ) → n ≤ b
    → take n (build φ.prefix (replace_at φ.clauses b new)) ≡ take n φ.clauses
unfolding build
replaced-first φ w b there new n k =
    let p = φ.prefix in
    let cs = φ.clauses in
    let rest = new ++ drop (suc b) cs in
    ap (λ (x : List (List ℕ)). take n (build_on p [] x)) (replace-is cs b new there)
    ∙ ap (take n) (build-append p [] (take b cs) rest)
    ∙ ap (λ (x : List (List ℕ)). take n (build_on p x rest)) (build-same (record { prefix = p; clauses = take b cs }) (first-well φ w b))
    ∙ build-first p (take b cs) rest n (omega (arith, length-take-le b cs (omega arith)))
    ∙ take-take n b cs k

-- Kinds 2 and 6: the clauses without the variable stay ----------------------------------------------------------------
-- how many go
abbrev pub gone_with : Formula → ℕ → ℕ
gone_with φ a = length (with_lit (plain a) φ.clauses) + length (with_lit (negated a) φ.clauses)

pub gone-is : (φ : Formula) (a : ℕ) → length (clauses_with φ.clauses (2 * a)) + length (clauses_with φ.clauses (2 * a + 1)) ≡ gone_with φ a
unfolding plain negated with_lit
gone-is φ a = omega (arith, with-length φ.clauses (2 * a), with-length φ.clauses (2 * a + 1))

-- a literal that does not occur
none-with : (l : ℕ) (cs : List (List ℕ)) → occurs l cs ≡ false → with_lit l cs ≡ []
unfolding occurs with_lit any_of keep_if
none-with l [] h = refl
none-with l (c ∷ cs) h = rw (or_l (has l c) (any_of (has l) cs) h) (none-with l cs (or_r (has l c) (any_of (has l) cs) h))

with_none : (l : ℕ) (cs : List (List ℕ)) → length (with_lit l cs) ≡ 0 → occurs l cs ≡ false
unfolding occurs with_lit
with_none l cs h = with-some cs l ∙ ap not (eqb-eq (with-length cs l ∙ h))

-- l becomes true where its opposite does not occur: the clauses with its variable go
lone-goes : (l : ℕ) (cs : List (List ℕ)) → occurs (opposite l) cs ≡ false → assign l cs ≡ without_var (var l) cs
unfolding assign without_lit without_var occurs any_of keep_if
lone-goes l [] h = refl
lone-goes l (c ∷ cs) h = rw (mentions-lits c l, out, or-false (has l c)) (go (has l c) (lone-goes l cs (or_r (has (opposite l) c) (any_of (has (opposite l)) cs) h)))
  where
    out : has (opposite l) c ≡ false
    out = or_l (has (opposite l) c) (any_of (has (opposite l)) cs) h

    same-clause : without (opposite l) c ≡ c
    same-clause = unfold without in keep_all (λ k. not (eqb (opposite l) k)) c (any_none (λ k. eqb (opposite l) k) c (unfold has in out))

    go : (b : Bool) → map (without (opposite l)) (keep_if (λ d. not (has l d)) cs) ≡ keep_if (λ d. not (mentions d (var l))) cs
        → map (without (opposite l)) (cond (not b) (c ∷ keep_if (λ d. not (has l d)) cs) (keep_if (λ d. not (has l d)) cs))
        ≡ cond (not b) (c ∷ keep_if (λ d. not (mentions d (var l))) cs) (keep_if (λ d. not (mentions d (var l))) cs)
    go true ih = ih
    go false ih = ap₂ ◌∷◌ same-clause ih

resolvents-none : (a : ℕ) (cs : List (List ℕ)) → resolvents a cs [] ≡ []
unfolding resolvents resolvents_of
resolvents-none a [] = refl
resolvents-none a (c ∷ cs) = resolvents-none a cs

-- a pure variable, unless it is a universal of some clause
module _ (φ : Formula) (a : ℕ) (one : (occurs (plain a) φ.clauses && occurs (negated a) φ.clauses) ≡ false)
    (other : universal φ.prefix a ≡ true → gone_with φ a ≡ 0) where
  lone : (l : ℕ) × (var l ≡ a) × (occurs (opposite l) φ.clauses ≡ false) × (pure_raw φ a ≡ becomes_true l φ)
  unfolding pure_raw pure_lit
  lone =
      by_cases (occurs (plain a) φ.clauses)
      (λ e. (
        plain a,
        var-of-plain a,
        rw (opp-plain a) (rw e at one),
        rw (e, false_of (universal φ.prefix a) (λ u. clash e (with_none (plain a) φ.clauses (let z = other u in omega arith)))),
      ))
      (λ e. by_cases (universal φ.prefix a)
      (λ u. (plain a, var-of-plain a, rw (opp-plain a) (with_none (negated a) φ.clauses (let z = other u in omega arith)), rw (e, u, opp-negated a)))
      (λ u. (negated a, var-of-negated a, rw (opp-negated a) e, rw (e, u))))

  -- it is resolved without a resolvent
  pub no_pairs : raw_resolvents φ a ≡ []
  unfolding raw_resolvents
  no_pairs =
      by_cases (occurs (plain a) φ.clauses)
      (λ e. rw (none-with (negated a) φ.clauses (rw e at one)) (resolvents-none a (with_lit (plain a) φ.clauses)))
      (λ e. rw (none-with (plain a) φ.clauses e) (unfold resolvents in refl))

  pub pure-is-resolved : result_of φ pure a 0 ≡ result_of φ resolve a 0
  unfolding result_of raw_of resolve_raw becomes_true
  pure-is-resolved =
      let l = lone in
      let none : resolvents a (with_lit (plain a) φ.clauses) (with_lit (negated a) φ.clauses) ≡ [] = (unfold raw_resolvents in no_pairs) in
      ap tidied (l.3 ∙ rw (lone-goes l.0 φ.clauses l.2, l.1, none, append-nil (stay_of φ a)))
