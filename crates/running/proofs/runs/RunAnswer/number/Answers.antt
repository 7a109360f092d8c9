-- By the answer.
-- Assumes nothing.
use Rattle.running.specs.Running.{run_number}
use Rattle.running.proofs.runs.RunAnswer.number.Goals as goal

pub returns-in-True : goal.returns-in-True
unfolding run_number
returns-in-True c = rw c.in-True.is

pub returns-in-False : goal.returns-in-False
unfolding run_number
returns-in-False c = rw c.in-False.is

pub returns-in-Finished : goal.returns-in-Finished
unfolding run_number
returns-in-Finished c = rw c.in-Finished.is

pub returns-in-OutOfRoom : goal.returns-in-OutOfRoom
unfolding run_number
returns-in-OutOfRoom c = rw c.in-OutOfRoom.is

pub returns-in-Stopped : goal.returns-in-Stopped
unfolding run_number
returns-in-Stopped c = rw c.in-Stopped.is

pub returns-in-Length : goal.returns-in-Length
unfolding run_number
returns-in-Length c = rw c.in-Length.is

pub returns-in-Malformed : goal.returns-in-Malformed
unfolding run_number
returns-in-Malformed c = rw c.in-Malformed.is

pub returns-in-Allowance : goal.returns-in-Allowance
unfolding run_number
returns-in-Allowance c = rw c.in-Allowance.is
