-- Nothing is said of the answer.
-- Assumes nothing.
use Rattle.thinning.proofs.ReadLaws.{clause-small}
use Rattle.thinning.proofs.places.many_beyond.Goals as goal

pub reaches_beyond-requires : goal.reaches_beyond-requires
reaches_beyond-requires c = clause-small c.requires c.loop-i.i c.loop-i-test.true _ c.clause_at.ensures
