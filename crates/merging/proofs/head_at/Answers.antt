-- The literal that is there, or the number past all.
-- Assumes nothing.
use Rattle.merging.proofs.MergeTurns.{head-here, head-past}
use Rattle.merging.proofs.head_at.Goals as goal

pub returns-then-i-clause : goal.returns-then-i-clause
returns-then-i-clause c = head-here _ c.args.i c.if-i-clause.true

pub returns-else-i-clause : goal.returns-else-i-clause
returns-else-i-clause c = head-past _ c.args.i c.if-i-clause.false
