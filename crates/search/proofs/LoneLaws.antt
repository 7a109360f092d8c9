-- Kind 2, pure: a variable of the prefix one of whose literals is in no clause.
-- Assumes nothing.
use Prim.Native.Nat.{ℕ, ◌+◌, ◌*◌, ◌/◌, ◌<◌}
use mathlib.Core.Path.{◌≡◌, refl, sym, ap, ◌∙◌}
use mathlib.Core.Bool.{Bool, true, false, ◌&&◌, not}
use mathlib.Core.List.{List}
use lib.ListN.{length, get_or}
use lib.Dec.{eqb}
use native.Mathlib.Omega.{arith}
use Rattle.meaning.specs.Formula.{Formula, var, plain, negated, is_var, mentions}
use Rattle.rules.specs.Simplify.{occurs, pure_permitted}
use Rattle.table.specs.Table.{Holds}
use Rattle.table.specs.declared.Counts.{Counts}
use Rattle.index.specs.Index.{clauses_with}
use Rattle.meaning.proofs.Basics.{eqb-eq, eqb-ne}
use Rattle.table.proofs.HoldLaws.{count-variables}
use Rattle.index.proofs.ClauseLaws.{with-some}
use Rattle.table.proofs.LoopLaws.{any_at}
use Rattle.search.proofs.PrefixLaws.{entry_at}

-- m and n clauses have the plain and the negated literal
module _ (cs : List (List ℕ)) (v m : ℕ) (is_m : m ≡ length (clauses_with cs (2 * v))) where
  plain-is : occurs (plain v) cs ≡ not (eqb m 0)
  unfolding occurs plain
  plain-is = with-some cs (2 * v) ∙ ap (λ (k : ℕ). not (eqb k 0)) (sym is_m)

  pub lone-plain : m ≡ 0 → true ≡ not (occurs (plain v) cs && occurs (negated v) cs)
  lone-plain e = rw (plain-is, eqb-eq e)

  pub lone-negated : (m ≡ 0 → ⊥) → (n : ℕ) → n ≡ length (clauses_with cs (2 * v + 1))
      → eqb n 0 ≡ not (occurs (plain v) cs && occurs (negated v) cs)
  unfolding occurs negated
  lone-negated e n is-n = rw (plain-is, eqb-ne m 0 e, with-some cs (2 * v + 1), ← is-n) (twice (eqb n 0))
    where
      twice : (b : Bool) → b ≡ not (not b)
      twice true = refl
      twice false = refl

-- the variable of the entry at index i
module _ {φ : Formula} {t : List ℕ} {c : Counts} (h : Holds φ t c) (i : ℕ) (l : i < c.variables) where
  there : mentions φ.prefix (get_or t i 0 / 2) ≡ true
  unfolding mentions is_var var
  there =
      let v = get_or t i 0 / 2 in
      any_at (λ q. eqb (var q) v) 0 φ.prefix i (omega (arith, count-variables h)) (eqb-eq (ap (λ (q : ℕ). q / 2) (entry_at h i l)))

  pub pure-is : (r : Bool) → r ≡ not (occurs (plain (get_or t i 0 / 2)) φ.clauses && occurs (negated (get_or t i 0 / 2)) φ.clauses)
      → r ≡ pure_permitted φ (get_or t i 0 / 2)
  unfolding pure_permitted
  pure-is r e = rw there e
