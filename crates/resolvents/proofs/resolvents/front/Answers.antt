-- A clause has no part behind its end.
-- Assumes nothing.
use Rattle.std.proofs.lemmas.List.{take_min}
use Rattle.resolvents.proofs.resolvents.front.Goals as goal

pub returns : goal.returns
returns c = rw c.min-end.ensures (take_min 32 _)
