use mathlib.Core.Path.{refl, ◌∙◌}
use native.Mathlib.Omega.{arith}
use Rattle.scan.proofs.Spans.{pass-yes, pass-no, span_left, span-end, span-turn}
use Rattle.scan.proofs.bytes.skip.Goals as goal

pub loop-i-init : goal.loop-i-init
loop-i-init g c = refl

pub returns-then-blank : goal.returns-then-blank
returns-then-blank g c = span_left _ _ _ _ c.loop-i.invariant (omega arith) (pass-no _ _ _ c.blank.ensures c.if-blank.true)

pub loop-i-preserved : goal.loop-i-preserved
loop-i-preserved g c = span-turn _ _ _ _ c.loop-i.invariant (omega arith) (pass-yes _ _ _ c.blank.ensures c.if-blank.false)

pub returns : goal.returns
returns g c = c.max.ensures ∙ span-end _ _ _ c.loop-i.i _ refl c.loop-i.invariant c.loop-i-test.false c.loop-i.auto.i-end
