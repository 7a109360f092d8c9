-- By the sign.
-- Assumes nothing.
use Rattle.earlier.proofs.EarlierLaws.{own_is}
use Rattle.earlier.proofs.earlier.own_literal.Goals as goal

pub returns : goal.returns
returns c = rw c.from.ensures (own_is _ _)
