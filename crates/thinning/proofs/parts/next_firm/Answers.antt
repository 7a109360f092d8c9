-- The loop's invariant: no literal between stays.
-- Assumes nothing.
use mathlib.Core.Path.{sym, ◌∙◌}
use native.Mathlib.Omega.{arith}
use Rattle.table.specs.Ranks.{stays_by}
use Rattle.table.proofs.StayLaws.{small_at}
use Rattle.thinning.proofs.ReadLaws.{keep-past}
use Rattle.thinning.proofs.parts.next_firm.Goals as goal

pub stays_by-requires : goal.stays_by-requires
stays_by-requires c = small_at _ c.loop-i.i c.requires.0 c.loop-i-test.true

pub loop-i-preserved : goal.loop-i-preserved
loop-i-preserved c = (omega (arith, c.loop-i.invariant.0), omega arith, c.loop-i.invariant.2 ∙ keep-past (stays_by _ _) _ c.loop-i.i c.loop-i-test.true (sym c.stays_by.ensures ∙ c.if-stays_by.false))
