-- One number after the other.
-- Assumes nothing.
use native.Mathlib.Omega.{arith}
use lib.ListN.{length-set}
use Rattle.shows.proofs.NumberLaws.{entry_more}
use Rattle.shows.proofs.tables.fill.Goals as goal

pub loop-i-preserved : goal.loop-i-preserved
loop-i-preserved c = (c.loop-i.invariant.0, simp length-set c.loop-i.invariant.1, entry_more _ c.loop-i.t _ c.loop-i.i _ (omega arith) c.loop-i.invariant.2 c.entry_of.ensures)
