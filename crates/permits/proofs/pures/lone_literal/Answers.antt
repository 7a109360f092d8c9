-- By whether the plain literal occurs.
-- Assumes nothing.
use Rattle.permits.proofs.PureLaws.{lone-plain, lone-negated}
use Rattle.permits.proofs.pures.lone_literal.Goals as goal

pub returns-then-occurs : goal.returns-then-occurs
returns-then-occurs c = λ φ h. lone-plain _ _ _ (c.occurs.ensures φ h) c.if-occurs.true

pub returns : goal.returns
returns c = λ φ h. lone-negated _ _ _ (c.occurs.ensures φ h) c.if-occurs.false
