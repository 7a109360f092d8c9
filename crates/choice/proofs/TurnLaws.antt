-- The loop over the variables, one turn and the end.
-- Assumes nothing.
use Prim.Native.Nat.{ℕ, suc, ◌+◌, ◌/◌, ◌<◌, ◌≤◌}
use mathlib.Core.Path.{◌≡◌, sym, ap, ◌∙◌}
use mathlib.Core.List.{List, map}
use native.Mathlib.Numerals.{add-one}
use native.Mathlib.Omega.{arith}
use lib.ListN.{length, get_or, drop, drop_of_length-le}
use lib.Seq.{drop-cons}
use Rattle.meaning.specs.Formula.{Formula, var}
use Rattle.meaning.specs.WellFormed.{weight}
use Rattle.rules.specs.Entry.{Kind, resolve, expand}
use Rattle.rules.specs.Choice.{firsts, variables}
use Rattle.table.specs.Table.{Holds, Held}
use Rattle.table.specs.declared.Counts.{Counts}
use Rattle.growth.specs.Weights.{weighed_step}
use Rattle.growth.specs.declared.Weighed.{Weighed}
use Rattle.table.proofs.HoldLaws.{held, count-variables, count-clauses, count-literals}
use Rattle.search.proofs.PrefixLaws.{entry_at}
use Rattle.choice.specs.Chosen.{best_of, considered, consider_all, nothing_yet, Ranked}
use Rattle.choice.specs.declared.Standing.{Standing}
use Rattle.choice.proofs.BestLaws.{best-resolve, best-expand}

-- the weight of the formula in a table
pub weight_is : {φ : Formula} {t : List ℕ} {c : Counts} → Holds φ t c → c.variables + c.clauses + c.literals ≡ weight φ
unfolding weight
weight_is {φ} {t} {c} h = omega (arith, count-variables h, count-clauses h, count-literals h)

-- the variables from place i on
unfoldable pub variables_from : Formula → ℕ → List ℕ
variables_from φ i = map var (drop i φ.prefix)

module _ {φ : Formula} {t : List ℕ} {c : Counts} (h : Holds φ t c) (k : Kind) (s : Standing) (i : ℕ) where
  pub consider-turn : i < c.variables → (v : ℕ) → v ≡ get_or t i 0 / 2 → (w : Weighed) → w ≡ weighed_step s.below φ k v → (s' : Standing) → s' ≡ considered s v w → consider_all φ k s (variables_from φ i) ≡ consider_all φ k s' (variables_from φ (i + 1))
  unfolding variables_from consider_all var
  consider-turn l v e w d s' f =
      let n : i < length φ.prefix = omega (arith, count-variables h) in
      let q : v ≡ get_or φ.prefix i 0 / 2 = e ∙ ap (λ (x : ℕ). x / 2) (sym (entry_at h i l)) in
      let g : s' ≡ considered s (get_or φ.prefix i 0 / 2) (weighed_step s.below φ k (get_or φ.prefix i 0 / 2)) =
      f ∙ ap (considered s v) d ∙ ap (λ (u : ℕ). considered s u (weighed_step s.below φ k u)) q in
      rw (add-one i)
      (ap (λ (l : List ℕ). consider_all φ k s (map var l)) (drop-cons φ.prefix i 0 n)
      ∙ ap (λ (x : Standing). consider_all φ k x (map var (drop (suc i) φ.prefix))) (sym g))

  pub consider-end : c.variables ≤ i → consider_all φ k s (variables_from φ i) ≡ s
  unfolding variables_from consider_all
  consider-end l = rw (drop_of_length-le φ.prefix (let n = count-variables h in let m : length φ.prefix ≤ i = omega arith in m))

-- after the last variable the standing has the best
module _ {φ : Formula} {t : List ℕ} {c : Counts} (h : Holds φ t c) (E : ℕ) (s₀ s : Standing) (i : ℕ) (end : c.variables ≤ i) where
  last-is : (k : Kind) (s₁ : Standing) → s₀ ≡ s₁ → consider_all φ k s₀ (variables_from φ 0) ≡ consider_all φ k s (variables_from φ i) → s ≡ consider_all φ k s₁ (variables_from φ 0)
  last-is k s₁ e inv = sym (consider-end h k s i end) ∙ sym inv ∙ ap (λ (x : Standing). consider_all φ k x (variables_from φ 0)) e

  pub resolve-best : s₀ ≡ nothing_yet (c.variables + c.clauses + c.literals) → consider_all φ resolve s₀ (variables_from φ 0) ≡ consider_all φ resolve s (variables_from φ i) → s.best ≡ best_of E φ resolve
  unfolding variables_from firsts variables
  resolve-best e inv = ap (λ (x : Standing). x.best) (last-is resolve (nothing_yet (weight φ)) (e ∙ ap nothing_yet (weight_is h)) inv) ∙ best-resolve E φ

  pub expand-best : s₀ ≡ nothing_yet (c.variables + c.clauses + c.literals + E + 1) → consider_all φ expand s₀ (variables_from φ 0) ≡ consider_all φ expand s (variables_from φ i) → s.best ≡ best_of E φ expand
  unfolding variables_from firsts variables
  expand-best e inv = ap (λ (x : Standing). x.best) (last-is expand (nothing_yet (weight φ + E + 1)) (e ∙ ap (λ (n : ℕ). nothing_yet (n + E + 1)) (weight_is h)) inv) ∙ best-expand E φ

-- what kind 7 asks of its callees
module _ {t : List ℕ} {c : Counts} {ranks : List ℕ} (r : Ranked t c ranks) where
  pub ranked-held : Held t c
  ranked-held = held r.ranks-of.holds
