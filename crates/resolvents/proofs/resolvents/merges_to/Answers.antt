-- The resolvent is made, and compared with the clause.
-- Assumes nothing.
use Rattle.resolvents.proofs.ResolvPending.{becomes-none, becomes-same}
use Rattle.resolvents.proofs.resolvents.merges_to.Goals as goal

pub returns-in-Some : goal.returns-in-Some
returns-in-Some c = λ q g k. becomes-same _ _ _ (c.resolve_pair.ensures.tidied q g k) _ _ c.in-Some.is _ c.equal.ensures

pub returns-in-None : goal.returns-in-None
returns-in-None c = λ q g k. becomes-none _ _ _ (c.resolve_pair.ensures.tidied q g k) _ c.in-None.is
