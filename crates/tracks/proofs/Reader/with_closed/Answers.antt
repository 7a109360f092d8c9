-- By its parts.
-- Assumes nothing.
use Rattle.tracks.proofs.Reader.with_closed.Goals as goal

pub returns : goal.returns
returns c = cc
