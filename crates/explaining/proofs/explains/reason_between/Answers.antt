-- By the table that the record names.
-- Assumes nothing.
use Rattle.apply.proofs.StartLaws.{lends-second, lends_first}
use Rattle.course.proofs.StepLaws.{well-second, well-first, stands-second, stands-first}
use Rattle.explaining.proofs.explains.reason_between.Goals as goal

pub reason_at-requires : goal.reason_at-requires
reason_at-requires c = let k = well-second c.requires.0 c.if-c.true in (k.0, k.1, c.requires.1)

pub returns-then-c : goal.returns-then-c
returns-then-c c = λ φ l. (c.reason_at.ensures.value φ (lends-second l c.if-c.true) l.well, stands-second l c.reason_at.ensures.spare_after c.if-c.true)

pub reason_at-requires-2 : goal.reason_at-requires-2
reason_at-requires-2 c = let k = well-first c.requires.0 c.if-c.false in (k.0, k.1, c.requires.1)

pub returns : goal.returns
returns c = λ φ l. (c.reason_at-2.ensures.value φ (lends_first l c.if-c.false) l.well, stands-first l c.reason_at-2.ensures.spare_after c.if-c.false)
