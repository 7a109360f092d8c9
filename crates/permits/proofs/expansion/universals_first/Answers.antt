-- The loop's invariant: what is left decides.
-- Assumes nothing.
use mathlib.Core.Path.{refl, sym, ◌∙◌}
use native.Mathlib.Omega.{arith}
use Rattle.permits.proofs.ScanLaws.{first_stops, first-turn, first-end}
use Rattle.permits.proofs.expansion.universals_first.Goals as goal

pub loop-i-init : goal.loop-i-init
loop-i-init c = refl

pub returns-then-prefix-i-eq0 : goal.returns-then-prefix-i-eq0
returns-then-prefix-i-eq0 c = c.all_exist.ensures ∙ sym (c.loop-i.invariant ∙ first_stops c.args.prefix.now c.loop-i.i (omega arith) c.if-prefix-i-eq0.true)

pub loop-i-preserved : goal.loop-i-preserved
loop-i-preserved c = c.loop-i.invariant ∙ first-turn c.args.prefix.now c.loop-i.i (omega arith) c.if-prefix-i-eq0.false

pub returns : goal.returns
returns c = sym (c.loop-i.invariant ∙ first-end c.args.prefix.now c.loop-i.i (omega arith))
