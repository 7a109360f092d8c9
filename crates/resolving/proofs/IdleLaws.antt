-- Pairs of which nothing comes, and the search for the next one.
-- Assumes nothing.
use Prim.Native.Nat.{ℕ, suc, ◌+◌, ◌≤◌, ◌<◌}
use mathlib.Core.Path.{◌≡◌, sym, ap, ◌∙◌}
use mathlib.Core.Bool.{Bool, true, false, ◌||◌, not, or_assoc}
use mathlib.Core.List.{List, [], ◌++◌}
use lib.Dec.{eqb}
use lib.ListN.{length, get_or, drop, drop_of_length-le}
use lib.Seq.{drop-cons}
use native.Mathlib.Numerals.{add-one}
use Rattle.meaning.specs.Lists.{any_of, has, without}
use Rattle.meaning.specs.Formula.{Formula, opposite}
use Rattle.meaning.specs.Tidy.{both_phases, tidy, tidy_sorted, add_tidied}
use Rattle.meaning.proofs.Basics.{by_cases, or-il, or-ir, or-false, eqb-self, eqb-sym, eqb-ne}
use Rattle.meaning.proofs.Lists.{any_append, any-has, has-keep}
use Rattle.meaning.proofs.Literals.{opp-opp}
use Rattle.table.specs.Table.{with_raw}
use Rattle.table.specs.declared.Counts.{Counts}
use Rattle.table.proofs.LoopLaws.{any_at}
use Rattle.table.proofs.SortLaws.{both-ascending}
use Rattle.merging.specs.Merging.{joined}
use Rattle.rebuilds.specs.Raws.{with_raws, Going}
use Rattle.resolving.specs.Pairs.{each_of, of_pair, Phases, Idle, Alike}
use Rattle.rebuilds.proofs.BuildLaws.{raws-append, raws-none, raws-one}

-- A raw clause with both phases of a variable ----------------------------------------------------------------------------
raw-idle : (ψ : Formula) (raw : List ℕ) → both_phases raw ≡ true → with_raw ψ raw ≡ ψ
unfolding with_raw tidy tidy_sorted add_tidied
raw-idle ψ raw e = rw (both-ascending raw ∙ e)

has_other : (m l : ℕ) (c : List ℕ) → has l c ≡ true → (l ≡ m → ⊥) → has l (without m c) ≡ true
unfolding without
has_other m l c h n = has-keep (λ k. not (eqb m k)) c l h (rw (eqb-ne m l (λ e. n (sym e))))

module _ (m : ℕ) (x y : List ℕ) where
  -- a literal of y that is not m has its opposite in x
  both-joined : (l : ℕ) → has l y ≡ true → (l ≡ m → ⊥) → has (opposite l) x ≡ true → both_phases (joined (opposite m) m x y) ≡ true
  unfolding joined both_phases
  both-joined l i n o = any-has (λ k. has (opposite k) (without (opposite m) x ++ without m y)) (without (opposite m) x ++ without m y) l here there
    where
      here : has l (without (opposite m) x ++ without m y) ≡ true
      here =
          unfold has in
          any_append (eqb l) (without (opposite m) x) (without m y) ∙ or-ir (any_of (eqb l) (without (opposite m) x)) (any_of (eqb l) (without m y)) (unfold has in has_other m l y i n)

      there : has (opposite l) (without (opposite m) x ++ without m y) ≡ true
      there =
          unfold has in
          any_append (eqb (opposite l)) (without (opposite m) x) (without m y)
          ∙ or-il (any_of (eqb (opposite l)) (without (opposite m) x)) (any_of (eqb (opposite l)) (without m y))
          (unfold has in has_other (opposite m) (opposite l) x o (λ e. n (sym (opp-opp l) ∙ ap opposite e ∙ opp-opp m)))

  -- y lacks m
  pub idle-without : has m y ≡ false → Idle (of_pair (opposite m) m x y)
  unfolding of_pair
  idle-without n ψ = rw n (raws-none ψ)

  pub idle-both : (l : ℕ) → has l y ≡ true → (l ≡ m → ⊥) → has (opposite l) x ≡ true → Idle (of_pair (opposite m) m x y)
  unfolding of_pair
  idle-both l i n o ψ =
      by_cases (has m y) (λ h. rw h (raws-one ψ (joined (opposite m) m x y) ∙ raw-idle ψ (joined (opposite m) m x y) (both-joined l i n o)))
      (λ h. idle-without h ψ)

  -- a literal that is met at index i
  pub idle_met : (i : ℕ) → i < length y → (get_or y i 0 ≡ m → ⊥) × (has (opposite (get_or y i 0)) x ≡ true) → Idle (of_pair (opposite m) m x y)
  idle_met i h k = idle-both (get_or y i 0) (unfold has in any_at (eqb (get_or y i 0)) 0 y i h (eqb-self (get_or y i 0))) k.0 k.1

-- The walk over the literals ----------------------------------------------------------------------------------------------
module _ (m : ℕ) (y : List ℕ) (i : ℕ) (found : Bool) (inv : has m y ≡ (found || has m (drop i y))) where
  pub found_turn : i < length y → has m y ≡ ((found || eqb (get_or y i 0) m) || has m (drop (i + 1) y))
  unfolding has any_of
  found_turn h =
      inv ∙ rw (add-one, drop-cons y i 0 h, eqb-sym (get_or y i 0) m) (sym (or_assoc found (eqb m (get_or y i 0)) (any_of (eqb m) (drop (suc i) y))))

  pub found-end : length y ≤ i → has m y ≡ found
  unfolding has any_of
  found-end h = inv ∙ rw (drop_of_length-le y {i = i} h) (or-false found)

-- The walk over the clauses -----------------------------------------------------------------------------------------------
module _ (f : List ℕ → List (List ℕ)) (cs : List (List ℕ)) (i : ℕ) (h : i < length cs) (y : List ℕ) (is : y ≡ get_or cs i []) (idle : Idle (f y)) where
  pub alike_next : Alike (each_of f (drop i cs)) (each_of f (drop (i + 1) cs))
  unfolding each_of
  alike_next ψ =
      rw (add-one, drop-cons cs i [] h, ← is) (raws-append ψ (f y) (each_of f (drop (suc i) cs)) ∙ ap (λ (χ : Formula). with_raws χ (each_of f (drop (suc i) cs))) (idle ψ))

-- What is on its way goes on from the next pair ------------------------------------------------------------------------------
pub going-alike : {ψ : Formula} {all xs ys : List (List ℕ)} {b : Bool} {t : List ℕ} {e : Counts} → Going ψ all xs b t e → Alike xs ys → Going ψ all ys b t e
going-alike {ψ} {all} {xs} {ys} {b} {t} {e} g a =
    record { formula = g.formula; holds = g.holds; second = g.second; prefix = g.prefix; left = sym (a g.formula) ∙ g.left }

pub alike_as : {l m : ℕ} → Phases l m → (x : List ℕ) (cs ds : List (List ℕ)) → Alike (each_of (of_pair (opposite m) m x) cs) (each_of (of_pair (opposite m) m x) ds) → Alike (each_of (of_pair l m x) cs) (each_of (of_pair l m x) ds)
alike_as {l} {m} p x cs ds a = rw p.back at a
