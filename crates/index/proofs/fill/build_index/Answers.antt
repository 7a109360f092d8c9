-- The lists, then the signatures.
-- Assumes nothing.
use Rattle.index.proofs.fill.build_index.Goals as goal

pub returns : goal.returns
returns c = λ φ h w. c.put_signatures.ensures φ h (c.put_lists.ensures φ h w)
