-- How many raw clauses step 7 makes, and of how many literals: clause by clause.
-- Assumes nothing.
use mathlib.Core.Path.{◌≡◌, refl, ap}
use Prim.Native.Nat.{ℕ, suc, ◌+◌}
use mathlib.Core.Bool.{Bool, true, false, ◌&&◌, ◌||◌, not, cond}
use mathlib.Core.List.{List, [], ◌∷◌, ◌++◌, map}
use native.Mathlib.Omega.{arith}
use lib.Dec.{eqb}
use lib.ListN.{length, length-append, length-map}
use Rattle.meaning.specs.Lists.{all_of, any_of, keep_if, has, without}
use Rattle.meaning.specs.Formula.{plain, negated, opposite, mentions, any_exist}
use Rattle.meaning.specs.WellFormed.{ascends, literals}
use Rattle.rules.specs.Simplify.{without_lit, assign}
use Rattle.rules.specs.Eliminate.{touching, others}
use Rattle.meaning.proofs.Basics.{by_cases, clash, false_of, and_l, and_r, not-true, eqb-true}
use Rattle.meaning.proofs.Lists.{keep_all, any_none}
use Rattle.meaning.proofs.Weight.{literals-append}
use Rattle.meaning.proofs.Literals.{var-of-plain, opp-plain, opp-negated}
use Rattle.meaning.proofs.Ascends.{once-opp}
use Rattle.rules.proofs.Resolve.{mentions-lits}
use Rattle.growth.specs.Expanding.{clauses_of, literals_of}
use Rattle.growth.specs.declared.Share.{Share}
use Rattle.growth.specs.declared.Share.TheVariants.{Stays, Loses, Doubles}
use Rattle.growth.proofs.ExpandLists.{each_once, ascends-once, mentions-has}

-- Without a literal ----------------------------------------------------------------------------------------------------
without-none : (k : ℕ) (c : List ℕ) → has k c ≡ false → without k c ≡ c
unfolding has without
without-none k c h = keep_all _ c (any_none (λ l. eqb k l) c h)

without-hit : (k l : ℕ) (c : List ℕ) → eqb k l ≡ true → without k (l ∷ c) ≡ without k c
unfolding without keep_if
without-hit k l c e = rw e

without-miss : (k l : ℕ) (c : List ℕ) → eqb k l ≡ false → without k (l ∷ c) ≡ l ∷ without k c
unfolding without keep_if
without-miss k l c e = rw e

without-one : (k : ℕ) (c : List ℕ) → each_once c ≡ true → has k c ≡ true → suc (length (without k c)) ≡ length c
unfolding each_once has any_of
without-one k [] o h = clash h refl
without-one k (l ∷ c) o h =
    by_cases (eqb k l)
    (λ e. rw (without-hit k l c e, without-none k c (gone e)))
    (λ e. rw (without-miss k l c e) (ap suc (without-one k c (search and_r) (rw e at h))))
  where
    gone : eqb k l ≡ true → has k c ≡ false
    gone e = false_of _ (λ i. clash (rw (eqb-true k l e) at (mentions-has c k i)) (search (and_l, not-true)))

-- One clause of f ------------------------------------------------------------------------------------------------------
-- when l becomes true the clause goes, or loses the opposite
assign-clauses : (l : ℕ) (c : List ℕ) (cs : List (List ℕ)) → length (assign l (c ∷ cs)) ≡ cond (has l c) 0 1 + length (assign l cs)
unfolding assign without_lit keep_if
assign-clauses l c cs = go (has l c)
  where
    go : (s : Bool) → length (map (without (opposite l)) (cond (not s) (c ∷ without_lit l cs) (without_lit l cs)))
        ≡ cond s 0 1 + length (map (without (opposite l)) (without_lit l cs))
    go true = omega arith
    go false = omega arith

assign-literals : (l : ℕ) (c : List ℕ) (cs : List (List ℕ)) → literals (assign l (c ∷ cs))
    ≡ cond (has l c) 0 (length (without (opposite l) c)) + literals (assign l cs)
unfolding assign without_lit keep_if literals
assign-literals l c cs = go (has l c)
  where
    go : (s : Bool) → literals (map (without (opposite l)) (cond (not s) (c ∷ without_lit l cs) (without_lit l cs)))
        ≡ cond s 0 (length (without (opposite l) c)) + literals (map (without (opposite l)) (without_lit l cs))
    go true = omega arith
    go false = refl

-- the universal is in one phase, or in none
pub record Phases (a : ℕ) (c : List ℕ) : Type 0 where
  pub mentioned : mentions c a ≡ (has (plain a) c || has (negated a) c)
  pub single : (has (plain a) c && has (negated a) c) ≡ false

phases : (a : ℕ) (c : List ℕ) → ascends c ≡ true → Phases a c
phases a c up =
    record {
      mentioned = rw (var-of-plain a, opp-plain a) at (mentions-lits c (plain a));
      single = by_cases (has (plain a) c) (λ h. rw (h, ← opp-plain a) (once-opp c up (plain a) h)) (λ h. rw h);
    }

module _ (a : ℕ) (c : List ℕ) (up : ascends c ≡ true) where
  sides-clauses : cond (has (negated a) c) 0 1 + cond (has (plain a) c) 0 1 ≡ clauses_of (cond (mentions c a) Loses Doubles)
  unfolding clauses_of
  sides-clauses = let x = phases a c up in rw x.mentioned (go (has (plain a) c) (has (negated a) c) x.single)
    where
      go : (s t : Bool) → (s && t) ≡ false → cond t 0 1 + cond s 0 1 ≡ clauses_of (cond (s || t) Loses Doubles)
      go true true h = clash refl h
      go true false h = refl
      go false true h = refl
      go false false h = refl

  sides-literals : cond (has (negated a) c) 0 (length (without (opposite (negated a)) c)) + cond (has (plain a) c) 0 (length (without (opposite (plain a)) c))
      ≡ literals_of (cond (mentions c a) Loses Doubles) (length c)
  unfolding literals_of
  sides-literals =
      let x = phases a c up in
      rw (x.mentioned, opp-plain a, opp-negated a)
      (go (has (plain a) c) (has (negated a) c) x.single
      (λ h. without-one (plain a) c (ascends-once c up) h) (λ h. without-none (plain a) c h)
      (λ h. without-one (negated a) c (ascends-once c up) h) (λ h. without-none (negated a) c h))
    where
      go : (s t : Bool) → (s && t) ≡ false
          → (s ≡ true → suc (length (without (plain a) c)) ≡ length c) → (s ≡ false → without (plain a) c ≡ c)
          → (t ≡ true → suc (length (without (negated a) c)) ≡ length c) → (t ≡ false → without (negated a) c ≡ c)
          → cond t 0 (length (without (plain a) c)) + cond s 0 (length (without (negated a) c)) ≡ literals_of (cond (s || t) Loses Doubles) (length c)
      go true true h i j k l = clash refl h
      go true false h i j k l = omega (arith, i refl)
      go false true h i j k l = omega (arith, k refl)
      go false false h i j k l = rw (j refl, l refl) (omega arith)

-- All clauses ------------------------------------------------------------------------------------------------------------
-- what becomes of a clause, by the existentials right of the universal
unfoldable pub share_by : ℕ → List ℕ → List ℕ → Share
share_by a es c = cond (any_exist es c) (cond (mentions c a) Loses Doubles) Stays

unfoldable pub clauses_by : ℕ → List ℕ → List (List ℕ) → ℕ
clauses_by a es [] = 0
clauses_by a es (c ∷ cs) = clauses_of (share_by a es c) + clauses_by a es cs

unfoldable pub literals_by : ℕ → List ℕ → List (List ℕ) → ℕ
literals_by a es [] = 0
literals_by a es (c ∷ cs) = literals_of (share_by a es c) (length c) + literals_by a es cs

-- a clause of f, and one that is not
module _ (es c : List ℕ) (cs : List (List ℕ)) where
  others-in : any_exist es c ≡ true → others es (c ∷ cs) ≡ others es cs
  unfolding others keep_if
  others-in e = rw e

  others-out : any_exist es c ≡ false → others es (c ∷ cs) ≡ c ∷ others es cs
  unfolding others keep_if
  others-out e = rw e

  touching-in : any_exist es c ≡ true → touching es (c ∷ cs) ≡ c ∷ touching es cs
  unfolding touching keep_if
  touching-in e = rw e

  touching-out : any_exist es c ≡ false → touching es (c ∷ cs) ≡ touching es cs
  unfolding touching keep_if
  touching-out e = rw e

literals-map : (g : ℕ → ℕ) (cs : List (List ℕ)) → literals (map (map g) cs) ≡ literals cs
unfolding literals
literals-map g [] = refl
literals-map g (c ∷ cs) = rw (length-map c g, literals-map g cs)

module _ (a : ℕ) (es : List ℕ) where
  share_in : (c : List ℕ) → any_exist es c ≡ true → share_by a es c ≡ cond (mentions c a) Loses Doubles
  unfolding share_by
  share_in c e = rw e

  clauses-out : (c : List ℕ) → any_exist es c ≡ false → clauses_of (share_by a es c) ≡ 1
  unfolding share_by clauses_of
  clauses-out c e = rw e

  literals-out : (c : List ℕ) → any_exist es c ≡ false → literals_of (share_by a es c) (length c) ≡ length c
  unfolding share_by literals_of
  literals-out c e = rw e

  -- the others, and the two sides of f
  abbrev sizes : (List (List ℕ) → ℕ) → List (List ℕ) → ℕ
  sizes f cs = f (others es cs) + (f (assign (negated a) (touching es cs)) + f (assign (plain a) (touching es cs)))

  sum-clauses : (cs : List (List ℕ)) → all_of ascends cs ≡ true → sizes length cs ≡ clauses_by a es cs
  unfolding clauses_by all_of
  sum-clauses [] h = unfold assign without_lit others touching keep_if in refl
  sum-clauses (c ∷ cs) h =
      let s = sum-clauses cs (search and_r) in
      by_cases (any_exist es c)
      (λ e. rw (
        others-in es c cs e,
        touching-in es c cs e,
        share_in c e,
        assign-clauses (negated a) c (touching es cs),
        assign-clauses (plain a) c (touching es cs),
      )
      (omega (arith, sides-clauses a c (search and_l))))
      (λ e. rw (others-out es c cs e, touching-out es c cs e, clauses-out c e) (omega arith))

  sum-literals : (cs : List (List ℕ)) → all_of ascends cs ≡ true → sizes literals cs ≡ literals_by a es cs
  unfolding literals_by all_of literals
  sum-literals [] h = unfold assign without_lit others touching keep_if in refl
  sum-literals (c ∷ cs) h =
      let s = sum-literals cs (search and_r) in
      by_cases (any_exist es c)
      (λ e. rw (
        others-in es c cs e,
        touching-in es c cs e,
        share_in c e,
        assign-literals (negated a) c (touching es cs),
        assign-literals (plain a) c (touching es cs),
      )
      (omega (arith, sides-literals a c (search and_l))))
      (λ e. rw (others-out es c cs e, touching-out es c cs e, literals-out c e) (omega arith))

  -- the raw clauses, the second side renamed
  module _ (g : ℕ → ℕ) (cs : List (List ℕ)) (up : all_of ascends cs ≡ true) where
    abbrev raws : List (List ℕ)
    raws = others es cs ++ (assign (negated a) (touching es cs) ++ map (map g) (assign (plain a) (touching es cs)))

    pub raw-clauses : length raws ≡ clauses_by a es cs
    raw-clauses = simp (length-append, length-map) (sum-clauses cs up)

    pub raw-literals : literals raws ≡ literals_by a es cs
    raw-literals = simp (literals-append, literals-map) (sum-literals cs up)
