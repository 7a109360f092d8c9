-- Which clauses are enough to look at for the b of clause a: those with one literal that every such b has. And for the a of clause b:
-- those with some literal of b.
-- Assumes nothing.
use Prim.Native.Nat.{ℕ, zero, suc, ◌+◌, ◌≤◌, ◌<◌}
use mathlib.Core.Path.{◌≡◌, refl, sym, ap, ◌∙◌}
use mathlib.Core.Bool.{Bool, true, false, true≢false}
use mathlib.Core.List.{List, [], ◌∷◌}
use lib.ListN.{length, get_or}
use lib.Dec.{eqb}
use borrow.Author.Tests.{ltb-true}
use native.Mathlib.Omega.{arith}
use Rattle.meaning.specs.Lists.{any_of, has, part_of, same, up_from}
use Rattle.meaning.specs.Formula.{Formula, opposite}
use Rattle.meaning.specs.Game.{empty_clause}
use Rattle.rules.specs.Entry.{subsume, equality, uses_b}
use Rattle.rules.specs.Simplify.{clause_at, is_clause, subsume_permitted, equality_permitted}
use Rattle.rules.specs.Step.{permitted}
use Rattle.rules.specs.Choice.{first_b, indices, seconds}
use Rattle.table.specs.Table.{Holds}
use Rattle.table.specs.declared.Counts.{Counts}
use Rattle.index.specs.Index.{clauses_with}
use Rattle.search.specs.Candidates.{found_as, first_for}
use Rattle.std.specs.Prelude.{Option, None}
use Rattle.meaning.proofs.Basics.{by_cases, false_of, clash, or-il, or-ir, eqb-self, eqb-false}
use Rattle.meaning.proofs.Lists.{all-has, any-has, has-keep}
use Rattle.rules.proofs.Permitted.{subsume-says, equality-says}
use Rattle.table.proofs.HoldLaws.{count-clauses}
use Rattle.index.proofs.ClauseLaws.{with-kept}
use Rattle.table.proofs.LoopLaws.{any_at}
use Rattle.search.proofs.PrefixLaws.{has-at}
use Rattle.search.proofs.FirstLaws.{first-among, first-none}

has-up : (s n b : ℕ) → s ≤ b → b < s + n → has b (up_from s n) ≡ true
unfolding up_from has any_of
has-up s zero b h k = absurd (omega arith)
has-up s (suc n) b h k =
    by_cases (eqb b s)
    (λ q. or-il (eqb b s) (any_of (λ i. eqb b i) (up_from (suc s) n)) q)
    (λ q. let d = eqb-false b s q in or-ir (eqb b s) (any_of (λ i. eqb b i) (up_from (suc s) n)) (has-up (suc s) n b (omega arith) (omega arith)))

-- a clause with the literal is in its list
pub with-has : (cs : List (List ℕ)) (l b : ℕ) → b < length cs → has l (get_or cs b []) ≡ true → has b (clauses_with cs l) ≡ true
with-has cs l b h i =
    rw (with-kept cs l) (has-keep (λ j. has l (get_or cs j [])) (up_from 0 (length cs)) b (has-up 0 (length cs) b (omega arith) (omega arith)) i)

-- s are the clauses with the literal l
module _ (φ : Formula) (a l : ℕ) (s : List ℕ) (is : s ≡ clauses_with φ.clauses l) where
  pub enough : (t : ℕ → Bool) → ((b : ℕ) → t b ≡ true → has l (clause_at φ.clauses b) ≡ true) → first_b t a s ≡ first_b t a (indices φ)
  unfolding clause_at indices
  enough t h =
      let cs = φ.clauses in
      rw (is, with-kept cs l) (first-among t (λ b. has l (get_or cs b [])) a (up_from 0 (length cs)) h)

  module _ (x : List ℕ) (at_a : x ≡ get_or φ.clauses a []) (r : Option (ℕ × ℕ)) where
    -- kind 3: a clause of which a is a part has each literal of a
    pub subsume-among : has l x ≡ true → r ≡ found_as (first_b (subsume_permitted φ a) a s) → r ≡ found_as (first_for φ subsume a)
    unfolding first_for permitted seconds uses_b clause_at part_of
    subsume-among k e =
        e ∙ ap found_as (enough (subsume_permitted φ a)
        (λ b y. all-has (λ m. has m (clause_at φ.clauses b)) x l (rw (← at_a) at (subsume-says φ a b y).part) k))

    -- kind 5: the other clause of the pair has the opposite of a's first literal
    pub equal-among : l ≡ opposite (get_or x 0 0) → r ≡ found_as (first_b (equality_permitted φ a) a s) → r ≡ found_as (first_for φ equality a)
    unfolding first_for permitted seconds uses_b clause_at has any_of
    equal-among k e = e ∙ ap found_as (enough (equality_permitted φ a) there)
      where
        there : (b : ℕ) → equality_permitted φ a b ≡ true → has l (clause_at φ.clauses b) ≡ true
        there b y =
            let p = equality-says φ a b y in
            let first : opposite p.k ≡ l = sym (k ∙ ap (λ (c : List ℕ). opposite (get_or c 0 0)) (at_a ∙ p.is-a)) in
            rw (p.is_b, first) (or-il (eqb l l) (has l (opposite p.l ∷ [])) (eqb-self l))

-- where clause a is x, without a b
module _ (φ : Formula) (a : ℕ) (x : List ℕ) (at_a : x ≡ get_or φ.clauses a []) where
  pub equal-none : (length x ≡ 2 → ⊥) → None ≡ found_as (first_for φ equality a)
  unfolding first_for permitted found_as clause_at
  equal-none h =
      sym (ap found_as (first-none (equality_permitted φ a) a (seconds φ equality)
      (λ b. false_of (equality_permitted φ a b) (λ y. h (ap length (at_a ∙ (equality-says φ a b y).is-a))))))

  pub not-empty : {t : List ℕ} {c : Counts} → Holds φ t c → a < c.clauses → empty_clause φ.clauses ≡ false → length x ≡ 0 → ⊥
  unfolding empty_clause same
  not-empty h k e z =
      true≢false (sym (any_at (same []) [] φ.clauses a (omega (arith, count-clauses h)) (ap (same []) (sym at_a) ∙ nil x z)) ∙ e)
    where
      nil : (y : List ℕ) → length y ≡ 0 → same [] y ≡ true
      nil [] q = refl
      nil (m ∷ y) q = absurd (omega arith)

-- The a of clause b ----------------------------------------------------------------------------------------------
-- a is in the list of some literal of y
pub record InList (lists : ℕ → List ℕ) (y : List ℕ) (a : ℕ) : Type 0 where
  pub literal : ℕ
  pub inside : has literal y ≡ true
  pub listed : has a (lists literal) ≡ true

-- so where none in the lists passes, none does at all
pub lists-none : (t : ℕ → Bool) (lists : ℕ → List ℕ) (y : List ℕ) → any_of (λ l. any_of t (lists l)) y ≡ false
    → ((a : ℕ) → t a ≡ true → InList lists y a) → (a : ℕ) → t a ≡ false
lists-none t lists y n within a =
    false_of (t a)
    (λ e. let w = within a e in
    clash (any-has (λ l. any_of t (lists l)) y w.literal w.inside (any-has t (lists w.literal) a w.listed e)) n)

-- kind 3: a part of y, which is clause b, has one of its literals
pub part_none : {φ : Formula} {t : List ℕ} {c : Counts} → Holds φ t c → empty_clause φ.clauses ≡ false → (b : ℕ) (y : List ℕ)
    → y ≡ get_or φ.clauses b [] → any_of (λ l. any_of (λ a. subsume_permitted φ a b) (clauses_with φ.clauses l)) y ≡ false
    → (a : ℕ) → subsume_permitted φ a b ≡ false
unfolding clause_at part_of is_clause
part_none {φ} h n b y at_b none =
    lists-none (λ a. subsume_permitted φ a b) (clauses_with φ.clauses) y none
    (λ a e. let s = subsume-says φ a b e in
    let x = get_or φ.clauses a [] in
    let k = ltb-true a (length φ.clauses) s.there-a in
    let m = not-empty φ a x refl h (omega (arith, count-clauses h)) n in
    let i = has-at x 0 (omega arith) in
    record {
      literal = get_or x 0 0;
      inside = rw at_b (all-has (λ l. has l (get_or φ.clauses b [])) x (get_or x 0 0) s.part i);
      listed = with-has φ.clauses (get_or x 0 0) a k i;
    })
