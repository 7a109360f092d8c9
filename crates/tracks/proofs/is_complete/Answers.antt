-- By the phase.
-- Assumes nothing.
use Rattle.qdimacs.specs.Read.{complete}
use Rattle.tracks.proofs.PhaseLaws.{not-complete}
use Rattle.tracks.proofs.is_complete.Goals as goal

pub returns-in-Line : goal.returns-in-Line
unfolding complete
returns-in-Line c = rw c.in-Line.is

pub returns-in-Full : goal.returns-in-Full
unfolding complete
returns-in-Full c = rw c.in-Full.is

pub returns-in_default : goal.returns-in_default
returns-in_default c = not-complete _ _ c.in_default.not-Line c.in_default.not-Full
