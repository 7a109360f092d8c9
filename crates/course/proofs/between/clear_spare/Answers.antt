-- By the table that the record names.
-- Assumes nothing.
use Rattle.course.proofs.HereLaws.{first-cleared, second-cleared}
use Rattle.course.proofs.between.clear_spare.Goals as goal

pub returns-then-c : goal.returns-then-c
returns-then-c c = λ φ l. first-cleared l c.if-c.true c.zero.ensures

pub returns-else-c : goal.returns-else-c
returns-else-c c = λ φ l. second-cleared l c.if-c.false c.zero-else-c.ensures
