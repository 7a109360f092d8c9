-- The two clauses are merged, then the clause is closed.
-- Assumes nothing.
use Rattle.rebuilds.proofs.RawLaws.{ready-good, ready-ranks}
use Rattle.resolving.proofs.resolving.add_pair.Goals as goal

pub returns : goal.returns
returns c = λ ψ h. c.close_hinted.ensures ψ _ h (ready-good h c.requires.ready) (ready-ranks h c.requires.ready) c.merge_in-p.ensures
