-- The loop's invariant: the literals so far have the clause in their lists.
-- Assumes nothing.
use mathlib.Core.Path.{refl, ◌∙◌}
use native.Mathlib.Omega.{arith}
use Rattle.index.proofs.FillLaws.{put-start, put-needs, put-turn, put-end}
use Rattle.index.proofs.fill.put_clause.Goals as goal

pub loop-literal-init : goal.loop-literal-init
loop-literal-init c = (refl, λ cs t. put-start t)

pub put_number-requires : goal.put_number-requires
put_number-requires c = put-needs c.requires.turn _ c.loop-literal.literal-index (c.loop-literal.invariant.1 _ c.requires.turn) (omega arith)

pub loop-literal-preserved : goal.loop-literal-preserved
loop-literal-preserved c = (
  c.put_number.auto.index ∙ c.loop-literal.invariant.0,
  λ cs t. rw c.put_number.ensures (put-turn t _ c.loop-literal.literal-index (c.loop-literal.invariant.1 cs t) (omega arith)),
)

pub returns : goal.returns
returns c = λ cs t. put-end t _ c.loop-literal.literal-index (c.loop-literal.invariant.1 cs t) (omega arith)
