-- By its parts.
-- Assumes nothing.
use Rattle.tracks.proofs.Reader.new.Goals as goal

pub returns : goal.returns
returns c = cc
