use mathlib.Core.Path.{sym, ◌∙◌}
use native.Mathlib.Omega.{arith}
use Rattle.scan.proofs.Spans.{preamble-over, preamble-left, preamble-blank, preamble-comment, preamble-inside}
use Rattle.scan.proofs.bytes.skip_preamble.Goals.{then-comment, else-comment+then-not-blank+else-b-ne99, else-comment+else-not-blank}
use Rattle.scan.proofs.bytes.skip_preamble.Goals as goal

pub returns-then-b-ne99 : goal.returns-then-b-ne99
returns-then-b-ne99 c =
    preamble-left _ _ _ _ c.loop-i.invariant (omega arith) c.if-comment.false
    (sym c.blank.ensures ∙ c.if-not-blank.true) c.if-b-ne99.true

pub loop-i-preserved : goal.loop-i-preserved
loop-i-preserved c =
    elim c.if-comment.branch [
      | then-comment w ↦ preamble-inside _ _ _ _ c.loop-i.invariant _ (omega arith) w.if-comment.true w.comment-is
      | else-comment+then-not-blank+else-b-ne99 w ↦ preamble-comment _ _ _ _ c.loop-i.invariant _ (omega arith) w.if-comment.false w.comment-is (sym w.blank.ensures ∙ w.if-not-blank.true) w.if-b-ne99.false
      | else-comment+else-not-blank w ↦ preamble-blank _ _ _ _ c.loop-i.invariant _ (omega arith) w.if-comment.false w.comment-is (sym w.blank.ensures ∙ w.if-not-blank.false)
    ]

pub returns : goal.returns
returns c = omega (arith, preamble-over _ _ _ _ c.loop-i.invariant (omega arith))
