-- A raw clause that is complete: tidied in the scratch, and what adding it then has to show.
-- Assumes nothing.
use Prim.Native.Nat.{ℕ}
use mathlib.Core.Path.{◌≡◌, ap, ◌∙◌}
use mathlib.Core.Bool.{true}
use mathlib.Core.List.{List}
use lib.ListN.{take}
use Rattle.meaning.specs.Formula.{Formula}
use Rattle.meaning.specs.Tidy.{ascending, reduce, tidy_sorted, tidy, add_tidied}
use Rattle.meaning.specs.WellFormed.{good_prefix}
use Rattle.table.specs.Table.{with_raw, with_new_clause, Holds}
use Rattle.table.specs.Answer.{Became}
use Rattle.table.specs.Ranks.{ranks_of, reduced_by}
use Rattle.table.specs.Pending.{Pends, tidied_in}
use Rattle.table.specs.declared.Counts.{Counts}
use Rattle.std.specs.Prelude.{Option, Some, None}
use Rattle.table.proofs.AnswerLaws.{unchanged}
use Rattle.table.proofs.ReduceLaws.{reduce-is}
use Rattle.table.proofs.SortLaws.{both-ascending}
use Rattle.table.proofs.PendingLaws.{small-pending}

-- Tidying in place ----------------------------------------------------------------------------------------------
module _ {raw s : List ℕ} {p : Option ℕ} (d : Pends raw s p) (q : List ℕ) where
  pub tidied-both : p ≡ None → tidied_in s None ≡ tidy q raw
  unfolding tidied_in tidy tidy_sorted
  tidied-both e = rw (both-ascending raw, ← d.phases, e)

  pub tidied-one : (n : ℕ) → p ≡ Some n → good_prefix q ≡ true → (ranks : List ℕ) → ranks ≡ ranks_of q → (s' : List ℕ) (m : ℕ)
      → take m s' ≡ reduced_by ranks (take n s) → tidied_in s' (Some m) ≡ tidy q raw
  unfolding tidied_in tidy tidy_sorted
  tidied-one n e g ranks k s' m is =
      let f : take m s' ≡ reduce q (ascending raw) =
      is ∙ ap (λ (x : List ℕ). reduced_by x (take n s)) k ∙ reduce-is q g (take n s) (small-pending d n e) ∙ ap (reduce q) (d.sorted n e) in
      rw (both-ascending raw, ← d.phases, e, f)

-- Adding --------------------------------------------------------------------------------------------------------
-- a dropped clause leaves the formula as it is; any other is a clause more, unless an equal one is there
module _ (φ : Formula) (raw s : List ℕ) (r : Option ℕ) (is : tidied_in s r ≡ tidy φ.prefix raw) where
  pub raw-both : r ≡ None → with_raw φ raw ≡ φ
  unfolding tidied_in with_raw add_tidied
  raw-both e = rw (← is, e)

  pub raw-one : (m : ℕ) → r ≡ Some m → with_raw φ raw ≡ with_new_clause φ (take m s)
  unfolding tidied_in with_raw with_new_clause
  raw-one m e = rw (← is, e)

module _ {φ : Formula} {t : List ℕ} {c : Counts} (h : Holds φ t c) (raw s : List ℕ) (r : Option ℕ) (is : tidied_in s r ≡ tidy φ.prefix raw) where
  pub close-both : r ≡ None → Became φ (with_raw φ raw) c.second (Some c) t
  close-both e = unchanged h (with_raw φ raw) (raw-both φ raw s r is e)

  pub close-one : (m : ℕ) → r ≡ Some m → (x : Option Counts) (t' : List ℕ) → Became φ (with_new_clause φ (take m s)) c.second x t' → Became φ (with_raw φ raw) c.second x t'
  close-one m e x t' b = rw (raw-one φ raw s r is m e) b
