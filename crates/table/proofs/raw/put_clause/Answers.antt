-- The loop's invariant: the literals so far are put.
-- Assumes nothing.
use borrow.Author.Rules.{rules}
use mathlib.Core.Path.{refl}
use native.Mathlib.Omega.{arith}
use Rattle.table.proofs.PendingLaws.{pended, put-turn, put-start, put-end, range_at}
use Rattle.table.proofs.raw.put_clause.Goals as goal

pub loop-literal-init : goal.loop-literal-init
loop-literal-init c = (omega arith, refl, c.requires.clause_value, λ raw h. put-start raw c.args.clause.now _ _ h, c.requires.pended)

pub put_literal-q-requires-clause-pended : goal.put_literal-q-requires-clause-pended
put_literal-q-requires-clause-pended c = c.loop-literal.invariant.4

pub put_literal-q-requires-clause-le_literal : goal.put_literal-q-requires-clause-le_literal
put_literal-q-requires-clause-le_literal c = range_at _ c.loop-literal.literal-index c.loop-literal.invariant.2 (omega arith)

pub loop-literal-preserved : goal.loop-literal-preserved
loop-literal-preserved c = (omega arith, search rules, c.loop-literal.invariant.2, λ raw h. put-turn raw _ c.loop-literal.literal-index _ _ (omega arith) (c.put_literal-q.ensures _ (c.loop-literal.invariant.3 raw h)), pended (c.put_literal-q.ensures _ c.loop-literal.invariant.4.pends))

pub returns : goal.returns
returns c = λ raw h. put-end raw _ c.loop-literal.literal-index _ _ (omega arith) (c.loop-literal.invariant.3 raw h)
