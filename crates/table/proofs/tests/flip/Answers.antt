-- By the literal's phase.
-- Assumes nothing.
use Rattle.table.proofs.TestLaws.{flip-even, flip-odd}
use Rattle.table.proofs.tests.flip.Goals as goal

pub returns-then-literal-eq0 : goal.returns-then-literal-eq0
returns-then-literal-eq0 c = flip-even _ c.if-literal-eq0.true

pub returns : goal.returns
returns c = flip-odd _ c.if-literal-eq0.false
