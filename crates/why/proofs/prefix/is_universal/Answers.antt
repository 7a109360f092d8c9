-- What is left of the prefix decides.
-- Assumes nothing.
use native.Mathlib.Omega.{arith}
use mathlib.Core.Path.{refl}
use Rattle.why.proofs.PlaceLaws.{found, turn, over}
use Rattle.why.proofs.prefix.is_universal.Goals as goal

pub loop-i-init : goal.loop-i-init
loop-i-init c = refl

pub returns-then-is_universal_number : goal.returns-then-is_universal_number
returns-then-is_universal_number c = found c.args.first.now c.args.second.now c.args.c c.args.v c.loop-i.i c.loop-i.invariant (omega arith) _ c.number_at_place.ensures _ c.is_universal_number.ensures c.if-is_universal_number.true

pub loop-i-preserved : goal.loop-i-preserved
loop-i-preserved c = turn c.args.first.now c.args.second.now c.args.c c.args.v c.loop-i.i c.loop-i.invariant (omega arith) _ c.number_at_place.ensures _ c.is_universal_number.ensures c.if-is_universal_number.false

pub returns : goal.returns
returns c = over c.args.first.now c.args.second.now c.args.c c.args.v c.loop-i.i c.loop-i.invariant (omega arith)
