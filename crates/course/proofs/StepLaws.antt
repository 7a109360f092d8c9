-- The choice and a step on two lent tables.
-- Assumes nothing.
use Prim.Native.Nat.{ℕ}
use mathlib.Core.Path.{◌≡◌, ap, ◌∙◌}
use mathlib.Core.Bool.{Bool, true, false, not}
use mathlib.Core.List.{List}
use lib.ListN.{length}
use Rattle.meaning.specs.Formula.{Formula}
use Rattle.rules.specs.Step.{stepped, step_of}
use Rattle.table.specs.Table.{table_of, counts_of, empty_formula, Holds}
use Rattle.table.specs.declared.Counts.{Counts}
use Rattle.index.specs.Build.{HeldWell}
use Rattle.search.specs.Searched.{SearchedTo}
use Rattle.choice.specs.Chosen.{HeldSearched}
use Rattle.apply.specs.Applied.{Kept, Lends, Lent, Stands, Moves, stepping_as, formula_after, side_after}
use Rattle.std.specs.Prelude.{Result, Ok}
use Rattle.apply.specs.declared.Refusal as told
use Rattle.apply.proofs.StartLaws.{lends-second, lends_first, lent-second, lent-first}

-- a well formed formula, on either side
module _ {a b : List ℕ} {c : Counts} (l : Lent a b c) where
  well-of : {t : List ℕ} → Kept t c → HeldWell t c
  well-of k = record { formula = k.formula; holds = k.holds; well = k.well }

  pub well-second : c.second ≡ true → HeldWell b c × (length a ≡ 11261)
  well-second e = let k = lent-second l e in (well-of k.0, k.1)

  pub well-first : c.second ≡ false → HeldWell a c × (length b ≡ 11261)
  well-first e = let k = lent-first l e in (well-of k.0, k.1)

  -- what the choice asks
  module _ {m : ℕ} (q : (φ : Formula) → Lends φ a b c → SearchedTo φ m) where
    searched-of : {t : List ℕ} → Holds l.formula t c → HeldSearched t c m
    searched-of h = record { formula = l.formula; holds = h; well = l.lends.well; searched = q l.formula l.lends }

    pub searched-second : c.second ≡ true → HeldSearched b c m × (length a ≡ 11261)
    searched-second e = (searched-of (lends-second l.lends e), l.lends.first-length)

    pub searched-first : c.second ≡ false → HeldSearched a c m × (length b ≡ 11261)
    searched-first e = (searched-of (lends_first l.lends e), l.lends.second-length)

-- the spare table is zero
module _ {φ : Formula} {a b z : List ℕ} {c : Counts} (l : Lends φ a b c) (is : z ≡ table_of empty_formula) where
  pub stands-second : c.second ≡ true → Stands φ c.second z b
  stands-second e = rw e (record { first = is; second = (lends-second l e).table })

  pub stands-first : c.second ≡ false → Stands φ c.second a z
  stands-first e = rw e (record { first = (lends_first l e).table; second = is })

-- a step that is permitted and has room
module _ {φ ψ : Formula} {e : ℕ} {s : Bool} {r : Result Counts told.Refusal} {a b : List ℕ} (m : Moves φ e s r a b) (h : step_of φ e ≡ stepped ψ) where
  pub advanced : Stands ψ (not s) a b
  unfolding formula_after side_after
  advanced = rw h at m.stands

  pub advanced-says : r ≡ Ok (counts_of ψ (not s))
  unfolding stepping_as
  advanced-says = m.answer ∙ ap (λ x. stepping_as x (not s)) h
