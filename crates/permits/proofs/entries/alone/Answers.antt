-- By the test of b.
-- Assumes nothing.
use Rattle.permits.proofs.CallLaws.{alone-zero, alone-more}
use Rattle.permits.proofs.entries.alone.Goals as goal

pub returns-then-b-eq0 : goal.returns-then-b-eq0
returns-then-b-eq0 c = alone-zero _ _ c.if-b-eq0.true

pub returns : goal.returns
returns c = alone-more _ _ c.if-b-eq0.false
