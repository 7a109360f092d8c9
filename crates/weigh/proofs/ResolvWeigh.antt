-- The counts of the result, pair by pair, and what they say against a bound.
-- Assumes nothing.
use Prim.Native.Nat.{ℕ, ◌+◌, ◌≤◌, ◌<◌}
use mathlib.Core.Path.{◌≡◌, sym, ap, ◌∙◌}
use mathlib.Core.Bool.{Bool, true, false, cond}
use mathlib.Core.List.{List}
use Rattle.std.specs.Prelude.{Option, Some, None}
use lib.ListN.{length, take}
use lib.Seq.{length-take-le}
use lib.Dec.{ltb, leb}
use borrow.Author.Tests.{lt-ltb, le-ltb, ltb-true, ltb-false}
use native.Mathlib.Omega.{arith}
use Rattle.meaning.specs.Lists.{all_of, any_of, same}
use Rattle.meaning.specs.Formula.{Formula, var, mentions}
use Rattle.meaning.specs.Tidy.{dropped, kept, add_tidied}
use Rattle.meaning.specs.WellFormed.{well_formed, literals, weight, fits}
use Rattle.rules.specs.Entry.{resolve}
use Rattle.rules.specs.Step.{result_of}
use Rattle.table.specs.Table.{counts_of, clause_more}
use Rattle.table.specs.Pending.{tidied_in}
use Rattle.table.specs.declared.Counts.{Counts}
use Rattle.growth.specs.Weights.{weighed, Summable}
use Rattle.growth.specs.declared.Weighed.{Weighed}
use Rattle.growth.specs.declared.Weighed.TheVariants.{Over, Fitting, Wide}
use Rattle.weigh.specs.Resolving.{rest_of, pairs, resolvent_at, resolved_to, Bounded, CountedTo}
use Rattle.growth.proofs.ExpandLoops.{weight_is}
use Rattle.meaning.proofs.Basics.{false_of, by_cases}
use Rattle.meaning.proofs.Parts.{room_of, of_room}
use Rattle.weigh.proofs.ResolvBuild.{add_none, add-clauses, add-literals}
use Rattle.weigh.proofs.ResolvResult.{resolved-next, resolved-grows, pair-free, result-is}

-- The counts after one pair more -------------------------------------------------------------------------------------------
module _ (φ : Formula) (w : well_formed φ ≡ true) (a k : ℕ) (h : k < pairs φ a) (d : Counts) (is : d ≡ counts_of (resolved_to φ a k) d.second)
    (s : List ℕ) (p : Option ℕ) (made : tidied_in s p ≡ resolvent_at φ a k) where
  same-counts : (resolved_to φ a (k + 1)).clauses ≡ (resolved_to φ a k).clauses → d ≡ counts_of (resolved_to φ a (k + 1)) d.second
  unfolding counts_of resolved_to
  same-counts e = is ∙ rw e

  pub next-dropped : p ≡ None → d ≡ counts_of (resolved_to φ a (k + 1)) d.second
  unfolding tidied_in add_tidied
  next-dropped e =
      let r : resolvent_at φ a k ≡ dropped = sym made ∙ rw e in
      same-counts (resolved-next φ w a k h ∙ rw r)

  module _ (m : ℕ) (some : p ≡ Some m) where
    made_kept : resolvent_at φ a k ≡ kept (take m s)
    unfolding tidied_in
    made_kept = sym made ∙ rw some

    pub kept_free : mentions (take m s) a ≡ false
    kept_free = pair-free φ w a k h (take m s) made_kept

    module _ (b : Bool) (there : b ≡ any_of (same (take m s)) (resolved_to φ a k).clauses) where
      pub next-there : b ≡ true → d ≡ counts_of (resolved_to φ a (k + 1)) d.second
      next-there t =
          same-counts (resolved-next φ w a k h ∙ rw made_kept (add_none (resolved_to φ a k).clauses (take m s) (sym there ∙ t)))

      pub next-new : b ≡ false → m ≤ length s → clause_more d m ≡ counts_of (resolved_to φ a (k + 1)) d.second
      unfolding counts_of resolved_to
      next-new t room =
          let cs = (resolved_to φ a k).clauses in
          let x = take m s in
          let new : any_of (same x) cs ≡ false = sym there ∙ t in
          let n : (resolved_to φ a (k + 1)).clauses ≡ add_tidied cs (kept x) = resolved-next φ w a k h ∙ ap (add_tidied cs) made_kept in
          let c : d.clauses + 1 ≡ length (resolved_to φ a (k + 1)).clauses = ap (λ (y : Counts). y.clauses + 1) is
          ∙ sym (ap length n ∙ add-clauses cs x new) in
          let more : d.literals + m ≡ literals (resolved_to φ a (k + 1)).clauses =
          ap (λ (y : Counts). y.literals + m) is
          ∙ sym (ap literals n ∙ add-literals cs x new ∙ ap (λ (y : ℕ). literals cs + y) (length-take-le m s room)) in
          let v : d.variables ≡ length (rest_of φ a) = ap (λ (y : Counts). y.variables) is in
          λ i. record { variables = v i; clauses = c i; literals = more i; second = d.second }

-- and they stay small
module _ {k : ℕ} {d : Counts} (b : Bounded k d) where
  pub bounded-next : Bounded (k + 1) d
  bounded-next = record { variables = b.variables; clauses = omega (arith, b.clauses); all-literals = omega (arith, b.all-literals) }

  pub bounded-more : (n : ℕ) → n ≤ 1023 → Bounded (k + 1) (clause_more d n)
  bounded-more n h = record { variables = b.variables; clauses = omega (arith, b.clauses); all-literals = omega (arith, b.all-literals) }

  pub bounded-up : (m : ℕ) → k ≤ m → Bounded m d
  bounded-up m h = record { variables = b.variables; clauses = omega (arith, b.clauses); all-literals = omega (arith, b.all-literals) }

  pub bounded-sums : k ≤ 4190209 → (d.variables ≤ 1023) × Summable d
  bounded-sums h = (
    b.variables,
    record {
      variables = omega (arith, b.variables);
      clauses = omega (arith, b.clauses);
      all-literals = omega (arith, b.all-literals);
    },
  )

-- Against the bound ----------------------------------------------------------------------------------------------------------
module _ (ψ : Formula) (d : Counts) (is : d ≡ counts_of ψ d.second) where
  counted : (d.variables ≡ length ψ.prefix) × (d.clauses ≡ length ψ.clauses) × (d.literals ≡ literals ψ.clauses)
  unfolding counts_of
  counted = (ap (λ (x : Counts). x.variables) is, ap (λ (x : Counts). x.clauses) is, ap (λ (x : Counts). x.literals) is)

  module _ (below n : ℕ) (e : n ≡ weight ψ) where
    pub weighed-over : below ≤ n → Over ≡ weighed below ψ
    unfolding weighed
    weighed-over h = rw (le-ltb (weight ψ) below (omega arith))

    module _ (h : n < below) where
      light : weighed below ψ ≡ cond (fits ψ) (Fitting (weight ψ)) Wide
      unfolding weighed
      light = rw (lt-ltb (weight ψ) below (omega arith))

      pub weighed-clauses : 2047 < d.clauses → Wide ≡ weighed below ψ
      weighed-clauses k = sym (light ∙ rw (false_of (fits ψ) (λ f. omega (arith, (room_of ψ f).clauses, counted.1))))

      pub weighed-literals : 8191 < d.literals → Wide ≡ weighed below ψ
      weighed-literals k = sym (light ∙ rw (false_of (fits ψ) (λ f. omega (arith, (room_of ψ f).literals, counted.2))))

      pub weighed-fitting : all_of (λ q. leb (var q) 1023) ψ.prefix ≡ true → d.variables ≤ 1023 → d.clauses ≤ 2047 → d.literals ≤ 8191
          → Fitting n ≡ weighed below ψ
      weighed-fitting s v c l =
          let f : fits ψ ≡ true =
          of_room ψ (record {
            variables = omega (arith, counted.0);
            numbers = s;
            clauses = omega (arith, counted.1);
            literals = omega (arith, counted.2);
          }) in
          ap Fitting e ∙ sym (light ∙ rw f)

-- The counts when the loop over the pairs stops ---------------------------------------------------------------------------------
module _ (φ : Formula) (w : well_formed φ ≡ true) (a : ℕ) (d : Counts) where
  -- it reached the bound, after k pairs
  pub counted-early : (k below n : ℕ) → d ≡ counts_of (resolved_to φ a k) d.second → n ≡ weight (resolved_to φ a k) → below ≤ n
      → CountedTo φ a below d
  counted-early k below n is e h = record { some = k; counted = is; whole = λ l. absurd (omega arith) }

  -- there is no pair more
  pub counted-all : (k below : ℕ) → d ≡ counts_of (resolved_to φ a k) d.second → k ≡ pairs φ a → CountedTo φ a below d
  counted-all k below is e = record { some = k; counted = is; whole = λ l. e }

  module _ (below : ℕ) (g : CountedTo φ a below d) where
    whole-result : weight (resolved_to φ a g.some) < below → resolved_to φ a g.some ≡ result_of φ resolve a 0
    whole-result l = ap (resolved_to φ a) (g.whole l) ∙ sym (result-is φ w a)

    still-over : ltb (weight (resolved_to φ a g.some)) below ≡ false → weighed below (resolved_to φ a g.some) ≡ weighed below (result_of φ resolve a 0)
    unfolding weighed
    still-over t =
        let h = ltb-false (weight (resolved_to φ a g.some)) below t in
        rw (t, le-ltb (weight (result_of φ resolve a 0)) below (omega (arith, resolved-grows φ w a g.some)))

    -- what is said of some of the result is said of the whole
    pub weighed-whole : (r : Weighed) → r ≡ weighed below (resolved_to φ a g.some) → r ≡ weighed below (result_of φ resolve a 0)
    weighed-whole r said =
        said ∙ by_cases (ltb (weight (resolved_to φ a g.some)) below)
        (λ t. ap (weighed below) (whole-result (ltb-true _ _ t)))
        (λ t. still-over t)

    -- a bound that the counts cannot reach
    pub counted-whole : Summable d → 5005002046 < below → d ≡ counts_of (result_of φ resolve a 0) d.second
    counted-whole s h =
        let e = weight_is (resolved_to φ a g.some) d g.counted in
        g.counted ∙ ap (λ (ψ : Formula). counts_of ψ d.second) (whole-result (omega (arith, s.variables, s.clauses, s.all-literals)))
