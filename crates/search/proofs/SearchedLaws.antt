-- Searched clauses by their indices: none of the first pairs is permitted. The loop over the clauses behind them, and when all are searched.
-- Assumes nothing.
use Prim.Native.Nat.{ℕ, zero, suc, ◌+◌, ◌≤◌, ◌<◌}
use mathlib.Core.Path.{◌≡◌, refl, sym, ap, ◌∙◌}
use mathlib.Core.Bool.{Bool, true, false, not}
use mathlib.Core.List.{List, [], ◌∷◌}
use lib.ListN.{length, get_or, take, drop, length-take, take-append-drop}
use lib.Seq.{get_or-take}
use lib.Dec.{eqb}
use borrow.Author.Tests.{lt-ltb, ltb-true}
use native.Mathlib.Omega.{arith}
use native.Mathlib.Nat.{le_of_suc-le-suc}
use Rattle.meaning.specs.Lists.{any_of, has, same}
use Rattle.meaning.specs.Formula.{Formula}
use Rattle.meaning.specs.WellFormed.{distinct, well_formed}
use Rattle.rules.specs.Entry.{Kind, subsume, strengthen, uses_b}
use Rattle.rules.specs.Simplify.{clause_at, is_clause, subsume_permitted, strengthen_permitted}
use Rattle.rules.specs.Step.{permitted}
use Rattle.rules.specs.Choice.{none, or_else, first_pair, firsts, seconds, costly, candidate}
use Rattle.table.specs.Table.{Holds}
use Rattle.table.specs.declared.Counts.{Counts}
use Rattle.walks.specs.Walks.{some_strengthens}
use Rattle.search.specs.Candidates.{found_as, first_for}
use Rattle.search.specs.Searched.{SearchedTo, Alone}
use Rattle.std.specs.Prelude.{Option}
use Rattle.std.specs.Option.{is_some}
use Rattle.meaning.proofs.Basics.{by_cases, false_of, clash, and_l, and_r, or-il, or_elim, not-true, eqb-self, eqb-true, eqb-false, eqb-ne}
use Rattle.meaning.proofs.Lists.{any_append, same-path, same_self, same_turn}
use Rattle.meaning.proofs.Parts.{distinct_of}
use Rattle.rules.proofs.Permitted.{subsume-says, strengthen-says}
use Rattle.rules.proofs.Search.{none-pair}
use Rattle.rules.proofs.Choose.{Used, listed, find_none}
use Rattle.table.proofs.HoldLaws.{count-clauses}
use Rattle.table.proofs.LoopLaws.{any_at}
use Rattle.search.proofs.FirstLaws.{told_none, first-none}
use Rattle.search.proofs.CandidateLaws.{counts-if, candidate_from, from_start}

-- Pairs of numbers -----------------------------------------------------------------------------------------------
-- a test fails for all pairs of numbers below m
pub record Calm (t : ℕ → ℕ → Bool) (m : ℕ) : Type 0 where
  pub fails : (a b : ℕ) → a < m → b < m → t a b ≡ false

module _ (t : ℕ → ℕ → Bool) (m : ℕ) (calm : Calm t m) where
  pub calm-turn : Alone t m → Calm t (m + 1)
  calm-turn alone =
      record {
        fails = λ a b h k. by_cases (eqb a m)
            (λ q. ap (λ (i : ℕ). t i b) (eqb-true a m q) ∙ alone.left b)
            (λ q. let d = eqb-false a m q in by_cases (eqb b m)
            (λ p. ap (t a) (eqb-true b m p) ∙ alone.right a)
            (λ p. let e = eqb-false b m p in calm.fails a b (omega arith) (omega arith)));
      }

  -- where what passes is below n
  pub calm-end : (n : ℕ) → n ≤ m → ((a b : ℕ) → t a b ≡ true → (a < n) × (b < n)) → (a b : ℕ) → t a b ≡ false
  calm-end n l inside a b = false_of (t a b) (λ e. let i = inside a b e in clash e (calm.fails a b (omega arith) (omega arith)))

-- Permitted pairs are clauses ------------------------------------------------------------------------------------
module _ (φ : Formula) (a b : ℕ) where
  abbrev Inside : Type 0
  Inside = (a < length φ.clauses) × (b < length φ.clauses)

  pub subsume-inside : subsume_permitted φ a b ≡ true → Inside
  unfolding is_clause
  subsume-inside e =
      let s = subsume-says φ a b e in
      (ltb-true a (length φ.clauses) s.there-a, ltb-true b (length φ.clauses) s.there-b)

  pub strengthen-inside : strengthen_permitted φ a b ≡ true → Inside
  unfolding is_clause
  strengthen-inside e =
      let s = strengthen-says φ a b e in
      (ltb-true a (length φ.clauses) s.there-a, ltb-true b (length φ.clauses) s.there-b)

  strengthen-some : strengthen_permitted φ a b ≡ true → some_strengthens φ.prefix (clause_at φ.clauses a) (clause_at φ.clauses b) ≡ true
  unfolding strengthen_permitted some_strengthens
  strengthen-some e = search (and_l, and_r)

-- No pair is permitted, and there is no candidate ------------------------------------------------------------------
pair-none : (t : ℕ → ℕ → Bool) (l bs : List ℕ) → ((a b : ℕ) → t a b ≡ false) → first_pair t l bs ≡ none
unfolding first_pair or_else
pair-none t [] bs h = refl
pair-none t (a ∷ l) bs h = rw (first-none (t a) a bs (h a)) (pair-none t l bs h)

module _ (E : ℕ) (φ : Formula) where
  candidate-none : (k : Kind) → costly k ≡ false → ((a b : ℕ) → permitted φ k a b ≡ false) → candidate E φ k ≡ none
  unfolding candidate_from
  candidate-none k e h = from_start E φ k e ∙ pair-none (permitted φ k) (firsts φ k) (seconds φ k) h

  pub no-subsume : ((a b : ℕ) → subsume_permitted φ a b ≡ false) → candidate E φ subsume ≡ none
  unfolding permitted costly
  no-subsume h = candidate-none subsume refl h

  pub no-strengthen : ((a b : ℕ) → strengthen_permitted φ a b ≡ false) → candidate E φ strengthen ≡ none
  unfolding permitted costly
  no-strengthen h = candidate-none strengthen refl h

  pub subsume-none : candidate E φ subsume ≡ none → (a b : ℕ) → subsume_permitted φ a b ≡ false
  unfolding permitted costly uses_b
  subsume-none e a b = sym (counts-if E φ subsume a b refl) ∙ find_none E φ subsume e a b refl

  pub strengthen-none : candidate E φ strengthen ≡ none → (a b : ℕ) → strengthen_permitted φ a b ≡ false
  unfolding permitted costly uses_b
  strengthen-none e a b = sym (counts-if E φ strengthen a b refl) ∙ find_none E φ strengthen e a b refl

-- From clauses to indices ----------------------------------------------------------------------------------------
-- clause i is one of the first m
among : (cs : List (List ℕ)) (m i : ℕ) → i < m → i < length cs → any_of (same (get_or cs i [])) (take m cs) ≡ true
among cs m i h k =
    any_at (same (get_or cs i [])) [] (take m cs) i (omega (arith, length-take m cs))
    (ap (same (get_or cs i [])) (get_or-take m cs i [] h) ∙ same_self (get_or cs i []))

-- distinct clauses stand at different indices
apart-head : (c : List ℕ) (cs : List (List ℕ)) → distinct (c ∷ cs) ≡ true → (b : ℕ) → b < length cs → same c (get_or cs b []) ≡ false
unfolding distinct
apart-head c cs w b k =
    false_of (same c (get_or cs b []))
    (λ s. clash (any_at (same c) [] cs b k s) (not-true (any_of (same c) cs) (and_l (not (any_of (same c) cs)) (distinct cs) w)))

apart : (cs : List (List ℕ)) → distinct cs ≡ true → (a b : ℕ) → a < length cs → b < length cs → (a ≡ b → ⊥) → same (get_or cs a []) (get_or cs b []) ≡ false
apart [] w a b h k d = absurd (omega arith)
apart (c ∷ cs) w zero zero h k d = absurd (d refl)
apart (c ∷ cs) w zero (suc b) h k d = apart-head c cs w b (le_of_suc-le-suc k)
apart (c ∷ cs) w (suc a) zero h k d = same_turn c (get_or cs a []) (apart-head c cs w a (le_of_suc-le-suc h))
apart (c ∷ cs) w (suc a) (suc b) h k d =
    apart cs (unfold distinct in and_r (not (any_of (same c) cs)) (distinct cs) w) a b (le_of_suc-le-suc h) (le_of_suc-le-suc k) (λ e. d (ap suc e))

module _ (φ : Formula) (m : ℕ) (searched : SearchedTo φ m) where
  pub calm-subsume : well_formed φ ≡ true → Calm (subsume_permitted φ) m
  unfolding SearchedTo clause_at
  calm-subsume w =
      record {
        fails = λ a b h k. false_of (subsume_permitted φ a b)
            (λ e. let s = subsume-says φ a b e in
            let i = subsume-inside φ a b e in
            let cs = φ.clauses in
            clash s.part
            (searched.no-part (get_or cs a []) (get_or cs b []) (among cs m a h i.0) (among cs m b k i.1)
            (apart cs (distinct_of φ w) a b i.0 i.1 (eqb-false a b s.differ))));
      }

  pub calm-strengthen : Calm (strengthen_permitted φ) m
  unfolding SearchedTo clause_at
  calm-strengthen =
      record {
        fails = λ a b h k. false_of (strengthen_permitted φ a b)
            (λ e. let i = strengthen-inside φ a b e in
            let cs = φ.clauses in
            clash (strengthen-some φ a b e)
            (searched.no-stronger (get_or cs a []) (get_or cs b []) (among cs m a h i.0) (among cs m b k i.1)));
      }

-- From indices to clauses ----------------------------------------------------------------------------------------
-- the place of a clause
record Placed (cs : List (List ℕ)) (x : List ℕ) : Type 0 where
  at : ℕ
  within : at < length cs
  is : x ≡ get_or cs at []

place : (cs : List (List ℕ)) (x : List ℕ) → any_of (same x) cs ≡ true → Placed cs x
unfolding any_of
place [] x h = clash h refl
place (c ∷ cs) x h =
    or_elim (same x c) (any_of (same x) cs) h
    (λ q. record { at = 0; within = omega arith; is = same-path x c q })
    (λ q. let p = place cs x q in record { at = suc p.at; within = let w = p.within in omega arith; is = p.is })

taken : (cs : List (List ℕ)) (m : ℕ) (x : List ℕ) → any_of (same x) (take m cs) ≡ true → Placed cs x
taken cs m x h =
    place cs x
    (ap (any_of (same x)) (sym (take-append-drop m cs))
    ∙ any_append (same x) (take m cs) (drop m cs)
    ∙ or-il (any_of (same x) (take m cs)) (any_of (same x) (drop m cs)) h)

-- nothing is known of no clause
pub searched-none : (φ : Formula) → SearchedTo φ 0
unfolding SearchedTo any_of
searched-none φ = record { no-part = λ x y i j d. clash i refl; no-stronger = λ x y i j. clash i refl }

module _ (φ : Formula) where
  -- where no pair is permitted, all clauses are searched
  pub searched-of : ((a b : ℕ) → subsume_permitted φ a b ≡ false) → ((a b : ℕ) → strengthen_permitted φ a b ≡ false) → (m : ℕ) → SearchedTo φ m
  unfolding SearchedTo subsume_permitted strengthen_permitted some_strengthens is_clause clause_at
  searched-of part strong m =
      record {
        no-part = λ x y i j d. let p = taken φ.clauses m x i in
            let q = taken φ.clauses m y j in
            let n = length φ.clauses in
            let e = eqb-ne p.at q.at (λ s. clash (ap (same x) (q.is ∙ ap (λ (k : ℕ). get_or φ.clauses k []) (sym s) ∙ sym p.is) ∙ same_self x) d) in
            rw (lt-ltb p.at n p.within, lt-ltb q.at n q.within, e, ← p.is, ← q.is) at (part p.at q.at);
        no-stronger = λ x y i j. let p = taken φ.clauses m x i in
            let q = taken φ.clauses m y j in
            let n = length φ.clauses in
            rw (lt-ltb p.at n p.within, lt-ltb q.at n q.within, ← p.is, ← q.is) at (strong p.at q.at);
      }

-- The loop over the clauses that are not known to be searched: b is the next -----------------------------------------
-- where the search for the b of clause a finds nothing, there is none
first_alone : (φ : Formula) (k : Kind) (a : ℕ) → ((b : ℕ) → Used k b) → first_for φ k a ≡ none → (b : ℕ) → permitted φ k a b ≡ false
unfolding first_for first_pair or_else has any_of
first_alone φ k a used e b =
    false_of (permitted φ k a b)
    (λ p. clash p
    (none-pair (permitted φ k) (a ∷ []) (seconds φ k) (rw e) a b (or-il (eqb a a) false (eqb-self a))
    (listed φ k a b (used b) p).1))

module _ {φ : Formula} {t : List ℕ} {c : Counts} (h : Holds φ t c) (b : ℕ) where
  pub subsume-alone : (f : Option (ℕ × ℕ)) → f ≡ found_as (first_for φ subsume b) → is_some f ≡ false → ((a : ℕ) → subsume_permitted φ a b ≡ false)
      → Alone (subsume_permitted φ) b
  unfolding permitted uses_b
  subsume-alone f is e into = record { left = first_alone φ subsume b (λ d. refl) (told_none (first_for φ subsume b) (ap is_some (sym is) ∙ e)); right = into }

  pub strengthen-alone : (f : Option (ℕ × ℕ)) → f ≡ found_as (first_for φ strengthen b) → is_some f ≡ false
      → ((a : ℕ) → strengthen_permitted φ a b ≡ false) → Alone (strengthen_permitted φ) b
  unfolding permitted uses_b
  strengthen-alone f is e into =
      record { left = first_alone φ strengthen b (λ d. refl) (told_none (first_for φ strengthen b) (ap is_some (sym is) ∙ e)); right = into }

  -- none is left
  module _ (n : c.clauses ≤ b) (E : ℕ) where
    pub subsume-end : Calm (subsume_permitted φ) b → candidate E φ subsume ≡ none
    subsume-end calm =
        no-subsume E φ (calm-end (subsume_permitted φ) b calm (length φ.clauses) (omega (arith, count-clauses h)) (subsume-inside φ))

    pub strengthen-end : Calm (strengthen_permitted φ) b → candidate E φ strengthen ≡ none
    strengthen-end calm =
        no-strengthen E φ (calm-end (strengthen_permitted φ) b calm (length φ.clauses) (omega (arith, count-clauses h)) (strengthen-inside φ))
