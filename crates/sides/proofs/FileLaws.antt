-- What the index tells of a formula in its table: the clauses with a literal, one by one.
-- Assumes nothing.
use Prim.Native.Nat.{ℕ, zero, suc, ◌≤◌, ◌<◌}
use mathlib.Core.Path.{◌≡◌, refl, sym, ap, ◌∙◌}
use mathlib.Core.List.{List, [], ◌∷◌, map}
use lib.ListN.{length, get_or}
use native.Mathlib.Omega.{arith}
use native.Mathlib.Nat.{not-suc-le-zero, le_of_suc-le-suc}
use Rattle.meaning.specs.Lists.{has}
use Rattle.meaning.specs.Formula.{Formula}
use Rattle.rules.specs.Eliminate.{with_lit}
use Rattle.table.specs.Table.{Held}
use Rattle.table.specs.declared.Counts.{Counts}
use Rattle.index.specs.Index.{clauses_with, Indexes, Indexed}
use Rattle.index.specs.Study.{Studied, Study}
use Rattle.merging.specs.Merging.{Ordered}
use Rattle.sides.specs.Sides.{Filed, File}
use Rattle.meaning.proofs.Weight.{keep-length}
use Rattle.meaning.proofs.Parts.{room_of}
use Rattle.table.proofs.HoldLaws.{held}
use Rattle.index.proofs.ClauseLaws.{with-clauses, with-length, with_at}
use Rattle.index.proofs.ReadLaws.{indexed, studied-indexes}
use Rattle.merging.proofs.OrderedLaws.{ordered_at, ordered-kept}

-- What is at hand ------------------------------------------------------------------------------------------------------
pub filed-of : {φ : Formula} {t : List ℕ} {c : Counts} {ranks index : List ℕ} → Studied φ t c ranks index → Filed φ t c index
filed-of {φ} {t} {c} {ranks} {index} s = record { holds = s.holds; indexes = studied-indexes s }

pub file-of : {t : List ℕ} {c : Counts} {ranks index : List ℕ} → Study t c ranks index → File t c index
file-of {t} {c} {ranks} {index} s = record { formula = s.formula; filed = filed-of s.studied }

pub file-held : {t : List ℕ} {c : Counts} {index : List ℕ} → File t c index → Held t c
file-held {t} {c} {index} f = held f.filed.holds

pub file-indexed : {t : List ℕ} {c : Counts} {index : List ℕ} → File t c index → Indexed index
file-indexed {t} {c} {index} f = indexed f.filed.indexes

-- The clauses with a literal ---------------------------------------------------------------------------------------------
mapped_at : (f : ℕ → List ℕ) (s : List ℕ) (i : ℕ) → i < length s → get_or (map f s) i [] ≡ f (get_or s i 0)
mapped_at f [] i h = absurd (not-suc-le-zero h)
mapped_at f (x ∷ s) zero h = refl
mapped_at f (x ∷ s) (suc i) h = mapped_at f s i (le_of_suc-le-suc h)

module _ (cs : List (List ℕ)) (l : ℕ) (s : List ℕ) (is : s ≡ clauses_with cs l) where
  pub listed-count : length s ≡ length (with_lit l cs)
  unfolding with_lit
  listed-count = ap length is ∙ with-length cs l

  module _ (i : ℕ) (h : i < length (with_lit l cs)) where
    pub listed-there : i < length s
    listed-there = omega (arith, listed-count)

    pub listed_below : get_or s i 0 < length cs
    listed_below =
        rw is (with_at cs l i (rw is at listed-there))

    pub listed-clause : get_or cs (get_or s i 0) [] ≡ get_or (with_lit l cs) i []
    unfolding with_lit
    listed-clause =
        sym (mapped_at (λ k. get_or cs k []) s i listed-there)
        ∙ ap (λ (ds : List (List ℕ)). get_or ds i []) (ap (map (λ k. get_or cs k [])) is ∙ with-clauses cs l)

pub listed-few : {φ : Formula} {index : List ℕ} → Indexes φ index → (l : ℕ) → length (with_lit l φ.clauses) ≤ 2047
unfolding with_lit
listed-few {φ} {index} h l = omega (arith, keep-length (has l) φ.clauses, (room_of φ h.fitting).clauses)

-- They can be merged --------------------------------------------------------------------------------------------------------
module _ {φ : Formula} {t : List ℕ} {c : Counts} {index : List ℕ} (f : Filed φ t c index) where
  pub clause-ordered : (i : ℕ) → Ordered (get_or φ.clauses i [])
  clause-ordered i = ordered_at φ f.indexes.well f.holds.fitting i

  pub side-ordered : (l i : ℕ) → Ordered (get_or (with_lit l φ.clauses) i [])
  unfolding with_lit
  side-ordered l i = ordered-kept φ f.indexes.well f.holds.fitting (has l) i
