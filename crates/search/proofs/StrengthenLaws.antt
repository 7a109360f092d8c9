-- Kind 4, strengthen: the test of one clause, which clauses are enough to look at, and the lowest of them.
-- Assumes nothing.
use Prim.Native.Nat.{ℕ, ◌+◌, ◌*◌, ◌/◌, ◌≤◌, ◌<◌}
use mathlib.Core.Path.{◌≡◌, refl, sym, ap, ◌∙◌}
use mathlib.Core.Bool.{Bool, true, false, ◌||◌}
use mathlib.Core.List.{List, [], ◌∷◌, ◌++◌}
use lib.ListN.{length, get_or}
use lib.Dec.{eqb}
use borrow.Author.Tests.{ltb-true}
use native.Mathlib.Omega.{arith}
use Rattle.meaning.specs.Lists.{any_of, has}
use Rattle.meaning.specs.Formula.{Formula, var, odd, opposite, is_var, mentions}
use Rattle.meaning.specs.WellFormed.{well_formed}
use Rattle.rules.specs.Entry.{strengthen, uses_b}
use Rattle.rules.specs.Simplify.{clause_at, is_clause, strengthen_permitted, strengthen_lit}
use Rattle.rules.specs.Step.{permitted}
use Rattle.rules.specs.Choice.{indices, seconds}
use Rattle.table.specs.Table.{Holds}
use Rattle.table.specs.declared.Counts.{Counts}
use Rattle.index.specs.Index.{clauses_with}
use Rattle.index.specs.Signs.{variables_in}
use Rattle.walks.specs.Walks.{some_strengthens}
use Rattle.search.specs.Candidates.{found_as, first_for, lowest_of}
use Rattle.std.specs.Prelude.{Some, None}
use Rattle.meaning.proofs.Basics.{by_cases, false_of, clash, or-il, or-ir, or_elim, eqb-true}
use Rattle.meaning.proofs.Lists.{any_append, any-witness, all-has}
use Rattle.meaning.proofs.Literals.{plain-is, negated-is, var-opp}
use Rattle.meaning.proofs.Ascends.{once-opp}
use Rattle.rules.proofs.Permitted.{strengthen-says}
use Rattle.permits.proofs.ClauseLaws.{absent, present}
use Rattle.search.proofs.StudyLaws.{clause-rises}
use Rattle.walks.proofs.MergeLaws.{strong-longer}
use Rattle.search.proofs.SignedLaws.{mentioned, strengthen-variables}
use Rattle.search.proofs.FirstLaws.{first-none}
use Rattle.search.proofs.AmongLaws.{with-has, lists-none}
use Rattle.search.proofs.LowestLaws.{lowest-none, lowest-some, lowest-nothing, lowest-found}

-- The test of one clause: x is clause a --------------------------------------------------------------------------
pub strong-no-a : {φ : Formula} {t : List ℕ} {c : Counts} → Holds φ t c → (a b : ℕ) → c.clauses ≤ a → false ≡ strengthen_permitted φ a b
unfolding strengthen_permitted
strong-no-a h a b n = rw (absent h a n)

module _ {φ : Formula} {t : List ℕ} {c : Counts} (h : Holds φ t c) (a b : ℕ) (k : a < c.clauses) where
  pub strong-absent : c.clauses ≤ b → false ≡ strengthen_permitted φ a b
  unfolding strengthen_permitted
  strong-absent n = rw (present h a k, absent h b n)

  -- no clause has a literal and its opposite
  pub strong-itself : well_formed φ ≡ true → a ≡ b → false ≡ strengthen_permitted φ a b
  unfolding clause_at
  strong-itself w e =
      sym (false_of (strengthen_permitted φ a b)
      (λ p. let s = strengthen-says φ a b p in
      clash (ap (λ (i : ℕ). has (opposite (strengthen_lit φ a b)) (get_or φ.clauses i [])) e ∙ s.opp-in-b)
      (once-opp (get_or φ.clauses a []) (clause-rises h w a k (get_or φ.clauses a []) refl) (strengthen_lit φ a b) s.in-a)))

  module _ (n : b < c.clauses) (x y : List ℕ) (at_a : x ≡ get_or φ.clauses a []) (at_b : y ≡ get_or φ.clauses b []) where
    pub strong-is : (r : Bool) → r ≡ some_strengthens φ.prefix x y → r ≡ strengthen_permitted φ a b
    unfolding strengthen_permitted some_strengthens clause_at
    strong-is r e = rw (present h a k, present h b n, ← at_a, ← at_b) e

    pub strong-short : well_formed φ ≡ true → length y < length x → false ≡ strengthen_permitted φ a b
    strong-short w m =
        strong-is false (sym (strong-longer φ.prefix x y (clause-rises h w a k x at_a) (clause-rises h w b n y at_b) m))

-- Which clauses are enough ---------------------------------------------------------------------------------------
-- a clause with a variable has one of its two literals
either : (y : List ℕ) (v : ℕ) → mentions y v ≡ true → (has (2 * v) y || has (2 * v + 1) y) ≡ true
unfolding mentions is_var
either y v e =
    let w = any-witness (λ q. eqb (var q) v) y e in
    let q = eqb-true (var w.0) v w.2 in
    by_cases (odd w.0)
    (λ o. or-ir (has (2 * v) y) (has (2 * v + 1) y)
    (ap (λ (k : ℕ). has k y) (sym (negated-is w.0 o ∙ ap (λ (n : ℕ). 2 * n + 1) q)) ∙ w.1))
    (λ o. or-il (has (2 * v) y) (has (2 * v + 1) y) (ap (λ (k : ℕ). has k y) (sym (plain-is w.0 o ∙ ap (λ (n : ℕ). 2 * n) q)) ∙ w.1))

-- a variable of x, where all of them are in y
all-mentioned : (x y : List ℕ) (v : ℕ) → variables_in x y ≡ true → mentions x v ≡ true → mentions y v ≡ true
unfolding variables_in mentions is_var
all-mentioned x y v a i =
    let w = any-witness (λ q. eqb (var q) v) x i in
    let q = eqb-true (var w.0) v w.2 in
    ap (λ (n : ℕ). any_of (λ k. eqb (var k) n) y) (sym q) ∙ all-has (λ l. any_of (λ k. eqb (var k) (var l)) y) x w.0 a w.1

-- a clause with the variable is in one of its two lists
listed : (φ : Formula) (v b : ℕ) → b < length φ.clauses → mentions (clause_at φ.clauses b) v ≡ true
    → has b (clauses_with φ.clauses (2 * v) ++ clauses_with φ.clauses (2 * v + 1)) ≡ true
unfolding clause_at
listed φ v b h e =
    joined (or_elim (has (2 * v) (get_or φ.clauses b [])) (has (2 * v + 1) (get_or φ.clauses b [])) (either (get_or φ.clauses b []) v e)
    (λ q. or-il (has b (clauses_with φ.clauses (2 * v))) (has b (clauses_with φ.clauses (2 * v + 1))) (with-has φ.clauses (2 * v) b h q))
    (λ q. or-ir (has b (clauses_with φ.clauses (2 * v))) (has b (clauses_with φ.clauses (2 * v + 1))) (with-has φ.clauses (2 * v + 1) b h q)))
  where
    joined : (has b (clauses_with φ.clauses (2 * v)) || has b (clauses_with φ.clauses (2 * v + 1))) ≡ true
        → has b (clauses_with φ.clauses (2 * v) ++ clauses_with φ.clauses (2 * v + 1)) ≡ true
    joined j = unfold has in any_append (λ k. eqb b k) (clauses_with φ.clauses (2 * v)) (clauses_with φ.clauses (2 * v + 1)) ∙ (unfold has in j)

inside : (φ : Formula) (a b : ℕ) → strengthen_permitted φ a b ≡ true → b < length φ.clauses
unfolding is_clause
inside φ a b e = ltb-true b (length φ.clauses) (strengthen-says φ a b e).there-b

-- a clause that strengthens y, which is clause b, is in one of the lists of y's variables
pub strong-none : (φ : Formula) (b : ℕ) (y : List ℕ) → y ≡ get_or φ.clauses b []
    → any_of (λ l. any_of (λ a. strengthen_permitted φ a b) (clauses_with φ.clauses (2 * (l / 2)) ++ clauses_with φ.clauses (2 * (l / 2) + 1))) y ≡ false
    → (a : ℕ) → strengthen_permitted φ a b ≡ false
unfolding clause_at var is_clause
strong-none φ b y at_b n =
    lists-none (λ a. strengthen_permitted φ a b) (λ l. clauses_with φ.clauses (2 * (l / 2)) ++ clauses_with φ.clauses (2 * (l / 2) + 1)) y n
    (λ a e. let s = strengthen-says φ a b e in
    let l = strengthen_lit φ a b in
    record {
      literal = opposite l;
      inside = rw at_b s.opp-in-b;
      listed = listed φ (opposite l / 2) a (ltb-true a (length φ.clauses) s.there-a) (mentioned (clause_at φ.clauses a) (opposite l) l (sym (var-opp l)) s.in-a);
    })

-- The lowest -----------------------------------------------------------------------------------------------------
module _ {φ : Formula} {t : List ℕ} {c : Counts} (h : Holds φ t c) (a : ℕ) where
  module _ (x : List ℕ) (at_a : x ≡ get_or φ.clauses a []) where
    pub strong-empty : length x ≡ 0 → None ≡ found_as (first_for φ strengthen a)
    unfolding first_for permitted found_as clause_at
    strong-empty z =
        sym (ap found_as (first-none (strengthen_permitted φ a) a (seconds φ strengthen)
        (λ b. false_of (strengthen_permitted φ a b) (λ e. none x z (strengthen_lit φ a b) (rw at_a (strengthen-says φ a b e).in-a)))))
      where
        none : (y : List ℕ) → length y ≡ 0 → (l : ℕ) → has l y ≡ true → ⊥
        none [] q l i = clash i (unfold has any_of in refl)
        none (m ∷ y) q l i = omega arith

    -- s are the clauses with a variable v of x
    module _ (v : ℕ) (i : mentions x v ≡ true) (s : List ℕ) (is : s ≡ clauses_with φ.clauses (2 * v) ++ clauses_with φ.clauses (2 * v + 1)) where
      all : (b : ℕ) → strengthen_permitted φ a b ≡ true → has b s ≡ true
      unfolding clause_at
      all b p = rw is (listed φ v b (inside φ a b p) (all-mentioned (clause_at φ.clauses a) (clause_at φ.clauses b) v (strengthen-variables φ a b p) (rw at_a at i)))

      pub strong-nothing : None ≡ lowest_of (strengthen_permitted φ a) s → None ≡ found_as (first_for φ strengthen a)
      unfolding first_for permitted seconds uses_b indices
      strong-nothing e =
          let n = length φ.clauses in
          lowest-nothing (strengthen_permitted φ a) a n n (lowest-none (strengthen_permitted φ a) n s all e) (omega arith)

      pub strong-found : (r : ℕ) → Some r ≡ lowest_of (strengthen_permitted φ a) s → Some (a, r) ≡ found_as (first_for φ strengthen a)
      unfolding first_for permitted seconds uses_b indices
      strong-found r e =
          let n = length φ.clauses in
          let l = lowest-some (strengthen_permitted φ a) n s all (inside φ a) r e in
          lowest-found (strengthen_permitted φ a) a n r l.1 l.0
