-- Assumes nothing.
use Rattle.sides.proofs.SideLaws.{rarer-first, rarer-second}
use Rattle.sides.proofs.sides.rarer.Goals as goal

pub returns-then-count_with : goal.returns-then-count_with
returns-then-count_with c = λ φ h. rarer-second φ.clauses _ _ _ _ (c.count_with-2.ensures φ h) (c.count_with.ensures φ h) c.if-count_with.true

pub returns : goal.returns
returns c = λ φ h. rarer-first φ.clauses _ _ _ _ (c.count_with-2.ensures φ h) (c.count_with.ensures φ h) c.if-count_with.false
