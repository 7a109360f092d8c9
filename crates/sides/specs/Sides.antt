-- A formula in its table, and its index; the literal by which a clause is looked for.
-- Assumes nothing.
use Rattle.std.specs.Prelude.{ℕ, cond, List, [], ◌∷◌, ltb, length}
use Rattle.meaning.specs.Formula.{Formula}
use Rattle.rules.specs.Eliminate.{with_lit}
use Rattle.table.specs.Table.{Holds}
use Rattle.table.specs.declared.Counts.{Counts}
use Rattle.index.specs.Index.{Indexes}
use Rattle.index.specs.declared.at_hand.AtHand.{AtHand}

-- A formula in its table, and its index -----------------------------------------------------------------------------
pub record Filed (φ : Formula) (t : List ℕ) (c : Counts) (index : List ℕ) : Type 0 where
  pub holds : Holds φ t c
  pub indexes : Indexes φ index

pub record File (t : List ℕ) (c : Counts) (index : List ℕ) : Type 0 where
  pub formula : Formula
  pub filed : Filed formula t c index

-- what is at hand has the formula φ in its table, and its index
abbrev pub FiledIn : Formula → AtHand → Type 0
FiledIn φ h = Filed φ h.table.now h.counts h.index.now

-- The literal by which a clause is looked for ---------------------------------------------------------------------------
-- of two literals the one in fewer clauses; the first, where they are in as many
unfoldable pub rarer : List (List ℕ) → ℕ → ℕ → ℕ
rarer cs l k = cond (ltb (length (with_lit k cs)) (length (with_lit l cs))) k l

-- of l and the literals of c
unfoldable pub rarest_of : List (List ℕ) → ℕ → List ℕ → ℕ
rarest_of cs l [] = l
rarest_of cs l (k ∷ c) = rarest_of cs (rarer cs l k) c
