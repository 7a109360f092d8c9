-- Numbers of a list by their index: the entries of the prefix in the table, and what is met at an index is of the list.
-- Assumes nothing.
use Prim.Native.Nat.{ℕ, ◌/◌, ◌<◌}
use mathlib.Core.Path.{◌≡◌, sym, ap, ◌∙◌}
use mathlib.Core.Bool.{true}
use mathlib.Core.List.{List}
use lib.ListN.{length, get_or}
use lib.Seq.{get_or-take}
use lib.Dec.{eqb}
use Rattle.meaning.specs.Lists.{has}
use Rattle.meaning.specs.Formula.{Formula, var, is_var, mentions}
use Rattle.table.specs.Table.{Holds}
use Rattle.table.specs.declared.Counts.{Counts}
use Rattle.std.specs.Prelude.{Contains}
use Rattle.meaning.proofs.Basics.{eqb-self, eqb-eq}
use Rattle.table.proofs.HoldLaws.{prefix-is}
use Rattle.table.proofs.LoopLaws.{any_at}

pub entry_at : {φ : Formula} {t : List ℕ} {c : Counts} → Holds φ t c → (i : ℕ) → i < c.variables → get_or φ.prefix i 0 ≡ get_or t i 0
entry_at {φ} {t} {c} h i l = ap (λ (s : List ℕ). get_or s i 0) (sym (prefix-is h)) ∙ get_or-take c.variables t i 0 l

pub has-at : (s : List ℕ) (i : ℕ) → i < length s → has (get_or s i 0) s ≡ true
unfolding has
has-at s i h = any_at (λ k. eqb (get_or s i 0) k) 0 s i h (eqb-self (get_or s i 0))

-- in the library's words
pub has-in : (s : List ℕ) (l : ℕ) → Contains s l → has l s ≡ true
unfolding has
has-in s l m = any_at (λ k. eqb l k) l s m.0 m.1 (eqb-eq (sym m.2))

pub mentions-in : (s : List ℕ) (l : ℕ) → Contains s l → mentions s (l / 2) ≡ true
unfolding mentions is_var var
mentions-in s l m = any_at (λ k. eqb (k / 2) (l / 2)) l s m.0 m.1 (eqb-eq (ap (λ (k : ℕ). k / 2) m.2))
