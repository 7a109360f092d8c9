-- What signatures tell: a clause without all variables of clause a is neither subsumed nor strengthened by it.
-- Assumes nothing.
use Prim.Native.Nat.{ℕ, ◌<◌}
use mathlib.Core.Path.{◌≡◌, refl, sym, ap, ◌∙◌}
use mathlib.Core.Bool.{Bool, true, false, ◌||◌, not}
use mathlib.Core.List.{List}
use lib.ListN.{length, get_or}
use lib.Dec.{eqb}
use borrow.Author.Tests.{ltb-true}
use Rattle.meaning.specs.Lists.{keep_if, has, part_of, without}
use Rattle.meaning.specs.Formula.{Formula, var, opposite, is_var, mentions}
use Rattle.rules.specs.Simplify.{clause_at, is_clause, subsume_permitted, strengthen_permitted, strengthen_lit}
use Rattle.index.specs.Signs.{signature_of, variables_in}
use Rattle.search.specs.Candidates.{Signed}
use Rattle.meaning.proofs.Basics.{by_cases, false_of, clash, or-il, or-ir, or_elim, eqb-true, eqb-eq}
use Rattle.meaning.proofs.Lists.{all-le, all-has, any-has, all-of-has, has-keep}
use Rattle.meaning.proofs.Literals.{var-opp}
use Rattle.rules.proofs.Permitted.{subsume-says, strengthen-says}

-- The variables of clause a --------------------------------------------------------------------------------------
pub mentioned : (y : List ℕ) (l k : ℕ) → var k ≡ var l → has k y ≡ true → mentions y (var l) ≡ true
unfolding mentions is_var
mentioned y l k e h = any-has (λ q. eqb (var q) (var l)) y k h (eqb-eq e)

module _ (φ : Formula) (a b : ℕ) where
  abbrev at : ℕ → List ℕ
  at i = clause_at φ.clauses i

  subsume-variables : subsume_permitted φ a b ≡ true → variables_in (at a) (at b) ≡ true
  unfolding variables_in part_of
  subsume-variables e =
      all-le (λ l. has l (at b)) (λ l. mentions (at b) (var l)) (at a) (λ l h. mentioned (at b) l l refl h) (subsume-says φ a b e).part

  -- what clause a strengthens has each literal of it, or its opposite
  strengthen-either : (l : ℕ) → has l (at a) ≡ true → strengthen_permitted φ a b ≡ true → (has l (at b) || has (opposite l) (at b)) ≡ true
  unfolding part_of without
  strengthen-either l i e =
      let s = strengthen-says φ a b e in
      let m = strengthen_lit φ a b in
      by_cases (eqb m l)
      (λ q. or-ir (has l (at b)) (has (opposite l) (at b)) (ap (λ (k : ℕ). has (opposite k) (at b)) (sym (eqb-true m l q)) ∙ s.opp-in-b))
      (λ q. or-il (has l (at b)) (has (opposite l) (at b))
      (all-has (λ j. has j (at b)) (keep_if (λ j. not (eqb m j)) (at a)) l s.part (has-keep (λ j. not (eqb m j)) (at a) l i (ap not q))))

  pub strengthen-variables : strengthen_permitted φ a b ≡ true → variables_in (at a) (at b) ≡ true
  unfolding variables_in
  strengthen-variables e =
      all-of-has (λ l. mentions (at b) (var l)) (at a)
      (λ l i. or_elim (has l (at b)) (has (opposite l) (at b)) (strengthen-either l i e)
      (λ q. mentioned (at b) l l refl q)
      (λ q. mentioned (at b) l (opposite l) (var-opp l) q))

  -- what both steps need of b: it is there, and has the variables of a
  abbrev Needs : Type 0
  Needs = (b < length φ.clauses) × (variables_in (at a) (at b) ≡ true)

  pub subsume-needs : subsume_permitted φ a b ≡ true → Needs
  unfolding is_clause
  subsume-needs e = (ltb-true b (length φ.clauses) (subsume-says φ a b e).there-b, subsume-variables e)

  pub strengthen-needs : strengthen_permitted φ a b ≡ true → Needs
  unfolding is_clause
  strengthen-needs e = (ltb-true b (length φ.clauses) (strengthen-says φ a b e).there-b, strengthen-variables e)

  -- so where m, the answer of may_be_part, is no, the test t fails
  pub unsigned : {signs : List ℕ} {sign : ℕ} {x : List ℕ} → Signed φ signs sign x a
      → (m : Bool) → ((x y : List ℕ) → sign ≡ signature_of x → (b < length signs → get_or signs b 0 ≡ signature_of y) → variables_in x y ≡ true → m ≡ true)
      → m ≡ false → (t : Bool) → (t ≡ true → Needs) → false ≡ t
  unfolding clause_at
  unsigned {signs} {sign} {x} s m may n t needs =
      sym (false_of t (λ e. let k = needs e in clash (may x (at b) s.own (λ l. s.all.each b k.0 l) (rw s.is k.1)) n))
