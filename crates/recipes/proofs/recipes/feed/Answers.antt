-- The loop's invariant: what became of the literals so far is put.
-- Assumes nothing.
use native.Mathlib.Omega.{arith}
use Rattle.table.proofs.PendingLaws.{pended}
use Rattle.recipes.proofs.RecipeLaws.{feed-start, feed-turn, feed-end}
use Rattle.recipes.proofs.recipes.feed.Goals as goal

pub loop-literal-init : goal.loop-literal-init
loop-literal-init c = (c.requires.ready, λ raw h. feed-start _ _ _ c.args.clause.now raw _ _ h, c.requires.pended)

pub literal_turned-k-requires : goal.literal_turned-k-requires
literal_turned-k-requires c = c.loop-literal.invariant.0

pub put_some-w-requires : goal.put_some-w-requires
put_some-w-requires c = c.loop-literal.invariant.2

pub loop-literal-preserved : goal.loop-literal-preserved
loop-literal-preserved c = (c.loop-literal.invariant.0, λ raw h. feed-turn _ _ _ _ c.loop-literal.literal-index (omega arith) _ c.literal_turned-k.ensures raw _ _ (c.put_some-w.ensures _ (c.loop-literal.invariant.1 raw h)), pended (c.put_some-w.ensures _ c.loop-literal.invariant.2.pends))

pub returns : goal.returns
returns c = λ raw h. feed-end _ _ _ _ c.loop-literal.literal-index (omega arith) raw _ _ (c.loop-literal.invariant.1 raw h)
