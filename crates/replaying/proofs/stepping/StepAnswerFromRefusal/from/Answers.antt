-- By the refusal.
-- Assumes nothing.
use Rattle.replaying.specs.Stepping.{refused_back}
use Rattle.replaying.proofs.stepping.StepAnswerFromRefusal.from.Goals as goal

pub returns-in-BadEntry : goal.returns-in-BadEntry
unfolding refused_back
returns-in-BadEntry c = rw c.in-BadEntry.is

pub returns-in-NotPermitted : goal.returns-in-NotPermitted
unfolding refused_back
returns-in-NotPermitted c = rw c.in-NotPermitted.is

pub returns-in-NoRoom : goal.returns-in-NoRoom
unfolding refused_back
returns-in-NoRoom c = rw c.in-NoRoom.is
