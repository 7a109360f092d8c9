-- The spare table is zeroed; then the entries one after the other. The invariant: what is left of the log makes the whole replay.
-- Assumes nothing.
use mathlib.Core.Path.{refl, ◌∙◌}
use native.Mathlib.Omega.{arith}
use Rattle.apply.proofs.StepLaws.{nothing_known}
use Rattle.course.proofs.HereLaws.{lends-here}
use Rattle.course.proofs.ReplayLaws.{entry-there, along-start, along-bad, along-lent, along-end, along-stepped, along-refused}
use Rattle.course.proofs.replays.replay.Goals as goal

pub returns-then-log-ne0 : goal.returns-then-log-ne0
returns-then-log-ne0 c = λ φ l. rw c.refused.ensures (along-bad (lends-here l (c.clear_spare.ensures φ l)) _ c.if-log-ne0.true)

pub loop-n-init : goal.loop-n-init
loop-n-init c = (refl, refl, λ φ h. along-start h _ c.if-log-ne0.false)

pub first_entry-entry-requires : goal.first_entry-entry-requires
first_entry-entry-requires c = entry-there c.loop-n.n c.args.log.now (omega arith)

pub step-requires : goal.step-requires
step-requires c =
    let z = c.clear_spare.ensures c.requires.formula c.requires.lends in
    (along-lent (c.loop-n.invariant.2 c.requires.formula (lends-here c.requires.lends z)), λ φ h. nothing_known φ _)

pub returns-in-Err : goal.returns-in-Err
returns-in-Err c =
    λ φ l. rw c.refused-in-Err.ensures (along-refused (c.loop-n.invariant.2 φ (lends-here l (c.clear_spare.ensures φ l))) (omega arith) c.first_entry-entry.ensures c.step.ensures _ c.in-Err.is)

pub loop-n-preserved : goal.loop-n-preserved
loop-n-preserved c = (
  c.step.auto.first ∙ c.loop-n.invariant.0,
  c.step.auto.second ∙ c.loop-n.invariant.1,
  λ φ h. along-stepped (c.loop-n.invariant.2 φ h) (omega arith) c.first_entry-entry.ensures c.step.ensures _ c.in-Ok.is,
)

pub returns : goal.returns
returns c = λ φ l. along-end (c.loop-n.invariant.2 φ (lends-here l (c.clear_spare.ensures φ l))) c.if-log-ne0.false (omega arith)
