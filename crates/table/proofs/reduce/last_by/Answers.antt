-- The loop's invariant: the place so far and what is left make the whole.
-- Assumes nothing.
use mathlib.Core.Path.{refl}
use native.Mathlib.Omega.{arith}
use Rattle.table.proofs.StayLaws.{small_at, last_turn, last_end}
use Rattle.table.proofs.reduce.last_by.Goals as goal

pub loop-literal-init : goal.loop-literal-init
loop-literal-init c = refl

pub later-last-requires : goal.later-last-requires
later-last-requires c = small_at _ c.loop-literal.literal-index c.requires (omega arith)

pub loop-literal-preserved : goal.loop-literal-preserved
loop-literal-preserved c = last_turn _ _ _ c.loop-literal.literal-index _ _ c.loop-literal.invariant (omega arith) c.later-last.ensures

pub returns : goal.returns
returns c = last_end _ _ _ c.loop-literal.literal-index _ c.loop-literal.invariant (omega arith)
