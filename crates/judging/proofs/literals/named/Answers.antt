-- By the record's side.
-- Assumes nothing.
use Rattle.table.specs.Lent.{named}
use Rattle.judging.proofs.literals.named.Goals as goal

pub returns-then-c : goal.returns-then-c
unfolding named
returns-then-c c = rw c.if-c.true

pub returns-else-c : goal.returns-else-c
unfolding named
returns-else-c c = rw c.if-c.false
