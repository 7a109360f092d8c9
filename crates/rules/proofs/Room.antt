-- Kinds 1 to 5 never need more room. Assumes nothing.
use mathlib.Core.Path.{◌≡◌, refl}
use Prim.Native.Nat.{ℕ, zero, suc, ◌≤◌}
use native.Mathlib.Omega.{arith}
use mathlib.Core.Bool.{Bool, true, false, ◌&&◌, not, cond, true≢false, and_comm}
use mathlib.Core.List.{List, [], ◌∷◌, map}
use lib.Dec.{eqb}
use lib.ListN.{length, get_or, length-map, length-append}
use Rattle.meaning.specs.Lists.{all_of, keep_if, has, without}
use Rattle.meaning.specs.Formula.{Formula, var, opposite, is_var, mentions, drop_var, right_of, odd}
use Rattle.meaning.specs.WellFormed.{literals, universals, fits}
use Rattle.meaning.specs.Tidy.{build, tidied}
use Rattle.rules.specs.Simplify.{clause_at, without_lit, assign, becomes_true, unit_raw, pure_raw, replace_at, subsume_raw, strengthen_lit, strengthen_raw, replace_lit, replaced, equality_of, equality_raw}
use Rattle.rules.specs.Entry.{Kind, unit, pure, subsume, strengthen, equality, resolve, expand}
use Rattle.rules.specs.Step.{raw_of, result_of}
use Rattle.rules.specs.Choice.{costly}
use Rattle.meaning.proofs.Lists.{all-keep-le, keep-twice}
use Rattle.meaning.proofs.Weight.{keep-length, Less, build-less, literals-append}
use Rattle.meaning.proofs.Parts.{room_of, of_room, Room}
use Rattle.rules.proofs.Permitted.{pure-becomes}

-- A raw result that is no larger fits ------------------------------------------------------------------------
pub record Smaller (φ r : Formula) : Type 0 where
  pub variables : length r.prefix ≤ length φ.prefix
  pub numbers : (t : ℕ → Bool) → all_of t φ.prefix ≡ true → all_of t r.prefix ≡ true
  pub clauses : length r.clauses ≤ length φ.clauses
  pub literals : literals r.clauses ≤ literals φ.clauses
  pub universals : universals r.prefix ≤ universals φ.prefix

smaller-fits : (φ r : Formula) → Smaller φ r → fits φ ≡ true → fits (tidied r) ≡ true
unfolding tidied
smaller-fits φ r s h =
    let o : Room φ = room_of φ h in
    let l : Less (build r.prefix r.clauses) r.clauses = build-less r.prefix r.clauses in
    of_room (record { prefix = r.prefix; clauses = build r.prefix r.clauses })
    (record { variables = omega arith; numbers = s.numbers _ o.numbers; clauses = omega (arith, l.0); literals = omega (arith, l.1) })

-- a variable dropped: no universal more
pub universals-drop : (v : ℕ) (p : List ℕ) → universals (drop_var v p) ≤ universals p
unfolding universals drop_var
universals-drop v p =
    rw (keep-twice _ odd both (λ q. and_comm (not (is_var v q)) (odd q)) p, ← keep-twice odd _ both (λ q. refl) p) at
    (keep-length (λ q. not (is_var v q)) (keep_if odd p))
  where
    both : ℕ → Bool
    both q = odd q && not (is_var v q)

-- The raw results of kinds 1 to 5 ----------------------------------------------------------------------------
assign-less : (l : ℕ) (cs : List (List ℕ)) → Less (assign l cs) cs
unfolding assign without_lit literals keep_if without
assign-less l [] = (omega arith, omega arith)
assign-less l (c ∷ cs) = go (has l c) (assign-less l cs)
  where
    go : (s : Bool) → Less (assign l cs) cs → Less (map (without (opposite l)) (cond (not s) (c ∷ without_lit l cs) (without_lit l cs))) (c ∷ cs)
    go true h = (omega (arith, h.0), omega (arith, h.1))
    go false h = (omega (arith, h.0), omega (arith, h.1, keep-length (λ k. not (eqb (opposite l) k)) c))

-- a variable of the prefix dropped, and clauses that are less
dropped-smaller : (φ : Formula) (v : ℕ) (cs : List (List ℕ)) → Less cs φ.clauses → Smaller φ (record { prefix = drop_var v φ.prefix; clauses = cs })
dropped-smaller φ v cs h =
    record {
      variables = unfold drop_var in keep-length _ _;
      numbers = λ t. (unfold drop_var in all-keep-le t _ _);
      clauses = h.0;
      literals = h.1;
      universals = universals-drop v φ.prefix;
    }

-- the prefix stays
same-smaller : (φ : Formula) (cs : List (List ℕ)) → Less cs φ.clauses → Smaller φ (record { prefix = φ.prefix; clauses = cs })
same-smaller φ cs h = record { variables = omega arith; numbers = λ t x. x; clauses = h.0; literals = h.1; universals = omega arith }

pub becomes-smaller : (φ : Formula) (l : ℕ) → Smaller φ (becomes_true l φ)
unfolding becomes_true
becomes-smaller φ l = dropped-smaller φ (var l) _ (assign-less l φ.clauses)

replace-less : (cs : List (List ℕ)) (b : ℕ) (new : List (List ℕ)) → length new ≤ 1 → literals new ≤ length (clause_at cs b) → Less (replace_at cs b new) cs
unfolding replace_at literals clause_at
replace-less [] b new h k = (omega arith, omega arith)
replace-less (c ∷ cs) zero new h k = (omega (arith, length-append new cs), omega (arith, literals-append new cs))
replace-less (c ∷ cs) (suc b) new h k = let r : Less (replace_at cs b new) cs = replace-less cs b new h k in (omega (arith, r.0), omega (arith, r.1))

map-less : (f : ℕ → ℕ) (cs : List (List ℕ)) → Less (map (map f) cs) cs
unfolding literals
map-less f [] = (omega arith, omega arith)
map-less f (c ∷ cs) = let h : Less (map (map f) cs) cs = map-less f cs in (omega (arith, h.0), omega (arith, h.1, length-map c f))

pub replaced-smaller : (φ : Formula) (k l : ℕ) → Smaller φ (replaced k l φ)
unfolding replaced
replaced-smaller φ k l = dropped-smaller φ (var k) _ (map-less (replace_lit k l) φ.clauses)

pub raw_smaller : (φ : Formula) (k : Kind) → costly k ≡ false → (a b : ℕ) → Smaller φ (raw_of φ k a b)
unfolding raw_of costly unit_raw subsume_raw strengthen_raw equality_raw equality_of
raw_smaller φ unit e a b = becomes-smaller φ (get_or (clause_at φ.clauses a) 0 0)
raw_smaller φ pure e a b = let l : (l : ℕ) × (var l ≡ a) × (pure_raw φ a ≡ becomes_true l φ) = pure-becomes φ a in rw l.2 (becomes-smaller φ l.0)
raw_smaller φ subsume e a b = same-smaller φ _ (replace-less _ b [] (omega arith) (unfold literals in omega arith))
raw_smaller φ strengthen e a b =
    same-smaller φ _ (replace-less _ b (d ∷ []) (omega arith) (unfold literals without in omega (arith, keep-length (λ k. not (eqb l k)) (clause_at φ.clauses b))))
  where
    l : ℕ
    l = opposite (strengthen_lit φ a b)

    d : List ℕ
    d = without l (clause_at φ.clauses b)
raw_smaller φ equality e a b = go (mentions (right_of (var k) φ.prefix) (var l))
  where
    k : ℕ
    k = get_or (clause_at φ.clauses a) 0 0

    l : ℕ
    l = get_or (clause_at φ.clauses a) 1 0

    go : (s : Bool) → Smaller φ (cond s (replaced l (opposite k) φ) (replaced k (opposite l) φ))
    go true = replaced-smaller φ l (opposite k)
    go false = replaced-smaller φ k (opposite l)
raw_smaller φ resolve e a b = absurd (true≢false e)
raw_smaller φ expand e a b = absurd (true≢false e)

-- a result of kinds 1 to 5 of a formula that fits fits
pub cheap-fits : (φ : Formula) (k : Kind) → costly k ≡ false → (a b : ℕ) → fits φ ≡ true → fits (result_of φ k a b) ≡ true
unfolding result_of
cheap-fits φ k e a b h = smaller-fits φ (raw_of φ k a b) (raw_smaller φ k e a b) h
