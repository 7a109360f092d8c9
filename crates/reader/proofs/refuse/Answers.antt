-- By its parts.
-- Assumes nothing.
use Rattle.reader.specs.Reading.{refusal}
use Rattle.reader.proofs.refuse.Goals as goal

pub returns : goal.returns
unfolding refusal
returns c = cc
