-- By the answer.
-- Assumes nothing.
use Rattle.replaying.specs.Stepping.{step_number}
use Rattle.replaying.proofs.stepping.StepAnswer.number.Goals as goal

pub returns-in-Done : goal.returns-in-Done
unfolding step_number
returns-in-Done c = rw c.in-Done.is

pub returns-in-Length : goal.returns-in-Length
unfolding step_number
returns-in-Length c = rw c.in-Length.is

pub returns-in-Malformed : goal.returns-in-Malformed
unfolding step_number
returns-in-Malformed c = rw c.in-Malformed.is

pub returns-in-BadEntry : goal.returns-in-BadEntry
unfolding step_number
returns-in-BadEntry c = rw c.in-BadEntry.is

pub returns-in-NotPermitted : goal.returns-in-NotPermitted
unfolding step_number
returns-in-NotPermitted c = rw c.in-NotPermitted.is

pub returns-in-NoRoom : goal.returns-in-NoRoom
unfolding step_number
returns-in-NoRoom c = rw c.in-NoRoom.is
