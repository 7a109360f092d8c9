-- The answer is that of the outcome; the rest is handed on.
-- Assumes nothing.
use Rattle.running.specs.Running.{ran_back}
use Rattle.running.proofs.runs.give_run.Goals as goal

pub returns : goal.returns
unfolding ran_back
returns c = rw c.into.ensures
