-- By the test.
-- Assumes nothing.
use Rattle.meaning.proofs.Basics.{eqb-eq, eqb-ne}
use Rattle.qdimacs.specs.Read.{after_clause}
use Rattle.tracks.proofs.after_clause.Goals as goal

pub returns-then-closed-c : goal.returns-then-closed-c
unfolding after_clause
returns-then-closed-c c = rw (eqb-eq c.if-closed-c.true)

pub returns-else-closed-c : goal.returns-else-closed-c
unfolding after_clause
returns-else-closed-c c = rw (eqb-ne _ _ c.if-closed-c.false)
