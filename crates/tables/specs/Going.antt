-- A formula on its way into a table, number by number.
-- Assumes nothing.
use Rattle.std.specs.Prelude.{ℕ, List}
use Rattle.table.specs.declared.Counts.{Counts}
use Rattle.table.specs.Table.{Held}
use Rattle.table.specs.Ready.{Ready}
use Rattle.table.specs.Pending.{Pended}
use Rattle.tables.specs.declared.State.{State}

pub record Going (t ranks scratch : List ℕ) (s : State) : Type 0 where
  pub ready : Ready t ranks s.counts
  pub pended : Pended scratch s.pending

-- what a call that could not print leaves: a table that is ready still, or that holds a formula still
abbrev pub StillReady : List ℕ → List ℕ → Type 0
StillReady t ranks = (d : Counts) × Ready t ranks d

abbrev pub StillHeld : List ℕ → Type 0
StillHeld t = (d : Counts) × Held t d
