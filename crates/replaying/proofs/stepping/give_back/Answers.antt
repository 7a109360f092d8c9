-- By what came of the step.
-- Assumes nothing.
use Rattle.replaying.specs.Stepping.{given_back}
use Rattle.replaying.proofs.stepping.give_back.Goals as goal

pub returns-in-Ok : goal.returns-in-Ok
unfolding given_back
returns-in-Ok c = rw c.in-Ok.is

pub returns-in-Err : goal.returns-in-Err
unfolding given_back
returns-in-Err c = rw (c.in-Err.is, c.from.ensures)
