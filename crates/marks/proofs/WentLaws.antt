-- Adding a clause with its marks: what the functions of src/lib.rt say and leave.
-- Assumes nothing.
use Prim.Native.Nat.{ℕ, ◌<◌}
use mathlib.Core.Path.{◌≡◌, refl, subst}
use mathlib.Core.Bool.{true, false}
use mathlib.Core.List.{List, [], ◌∷◌, ◌++◌}
use native.Mathlib.Omega.{arith}
use lib.ListN.{take}
use Rattle.meaning.specs.Lists.{any_of, same}
use Rattle.meaning.specs.Formula.{Formula}
use Rattle.meaning.specs.Tidy.{tidy, add_tidied}
use Rattle.meaning.specs.WellFormed.{fits}
use Rattle.table.specs.Table.{with_clause, with_new_clause, with_raw, Holds}
use Rattle.table.specs.Answer.{Became}
use Rattle.table.specs.Pending.{tidied_in}
use Rattle.table.specs.declared.Counts.{Counts}
use Rattle.std.specs.Prelude.{Option}
use Rattle.std.specs.Prelude.{Some, None}
use Rattle.meaning.proofs.Parts.{room_of}
use Rattle.table.proofs.HoldLaws.{count-clauses}
use Rattle.table.proofs.AnswerLaws.{unchanged, became-fits, became-full, pushed-clauses}
use Rattle.table.proofs.CloseLaws.{raw-both, raw-one}
use Rattle.marks.specs.Marks.{Marks, Went}

-- what was to be is there already
stayed : {φ : Formula} {t : List ℕ} {c : Counts} → Holds φ t c → {m : List ℕ} → Marks φ.clauses m → (ψ : Formula) → ψ ≡ φ
    → Went φ ψ c.second (Some c) t m
stayed h k ψ e = rw e (record { became = unchanged h _ refl; marks = rw h.fitting k })

module _ {φ : Formula} {t : List ℕ} {c : Counts} (h : Holds φ t c) {m : List ℕ} (k : Marks φ.clauses m) (x : List ℕ) where
  -- One clause more: the table's answer was r, and the table is t' after it ----------------------------------------
  module _ (r : Option Counts) (t' : List ℕ) (b : Became φ (with_clause φ x) c.second r t') where
    module _ (d : Counts) (e : r ≡ Some d) where
      there : fits (with_clause φ x) ≡ true
      there = became-fits _ _ _ _ _ b d e

      pub push-few : c.clauses < 2047
      push-few = omega (arith, (room_of (with_clause φ x) there).clauses, pushed-clauses φ x, count-clauses h)

      -- m' has the marks of one clause more
      pub push-done : (m' : List ℕ) → Marks (φ.clauses ++ (x ∷ [])) m' → Went φ (with_clause φ x) c.second (Some d) t' m'
      push-done m' q =
          record {
            became = subst (λ (r : Option Counts). Became φ (with_clause φ x) c.second r t') e b;
            marks = rw there (unfold with_clause in q);
          }

    pub push-full : r ≡ None → Went φ (with_clause φ x) c.second None t' m
    push-full e =
        record {
          became = subst (λ (r : Option Counts). Became φ (with_clause φ x) c.second r t') e b;
          marks = rw (became-full _ _ _ _ _ b e) k;
        }

  -- A clause that is there already, and one that is not -------------------------------------------------------------
  pub went-there : any_of (same x) φ.clauses ≡ true → Went φ (with_new_clause φ x) c.second (Some c) t m
  unfolding with_new_clause add_tidied
  went-there e = stayed h k (with_new_clause φ x) (rw e)

  pub went-new : {r : Option Counts} {t' m' : List ℕ} → any_of (same x) φ.clauses ≡ false
      → Went φ (with_clause φ x) c.second r t' m' → Went φ (with_new_clause φ x) c.second r t' m'
  unfolding with_new_clause with_clause add_tidied
  went-new e w = rw e w

-- A raw clause that is tidied: it is dropped, or added ---------------------------------------------------------------------
module _ {φ : Formula} {t : List ℕ} {c : Counts} (h : Holds φ t c) {m : List ℕ} (k : Marks φ.clauses m)
    (raw s : List ℕ) (p : Option ℕ) (is : tidied_in s p ≡ tidy φ.prefix raw) where
  pub close-both : p ≡ None → Went φ (with_raw φ raw) c.second (Some c) t m
  close-both e = stayed h k (with_raw φ raw) (raw-both φ raw s p is e)

  pub close-one : (n : ℕ) → p ≡ Some n → (r : Option Counts) (t' m' : List ℕ)
      → Went φ (with_new_clause φ (take n s)) c.second r t' m' → Went φ (with_raw φ raw) c.second r t' m'
  close-one n e r t' m' w = rw (raw-one φ raw s p is n e) w
