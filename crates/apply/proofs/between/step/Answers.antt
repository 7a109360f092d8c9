-- By the table that the record names.
-- Assumes nothing.
use mathlib.Core.Path.{ap}
use mathlib.Core.Bool.{not}
use Rattle.apply.proofs.StartLaws.{lends-second, lends_first, lent-second, lent-first, known-second, known-first}
use Rattle.apply.proofs.StepLaws.{moves-second, moves-first}
use Rattle.apply.proofs.between.step.Goals as goal

pub step_between-requires : goal.step_between-requires
step_between-requires c = let k = lent-second c.requires.0 c.if-c.true in (k.0, k.1, known-second c.requires.0 c.requires.1 c.if-c.true)

pub returns-then-c : goal.returns-then-c
returns-then-c c = λ φ l. rw c.if-c.true (moves-first φ _ _ _ _ _ (ap not c.if-c.true) (c.step_between.ensures φ (lends-second l c.if-c.true) l.well))

pub step_between-requires-2 : goal.step_between-requires-2
step_between-requires-2 c = let k = lent-first c.requires.0 c.if-c.false in (k.0, k.1, known-first c.requires.0 c.requires.1 c.if-c.false)

pub returns : goal.returns
returns c = λ φ l. rw c.if-c.false (moves-second φ _ _ _ _ _ (ap not c.if-c.false) (c.step_between-2.ensures φ (lends_first l c.if-c.false) l.well))
