-- By whether there is a call.
-- Assumes nothing.
use Rattle.permits.specs.Calls.{call_read}
use Rattle.steps.specs.Decide.{call_permitted}
use Rattle.steps.proofs.deciding.is_permitted.Goals as goal

pub returns-in-Some : goal.returns-in-Some
unfolding call_read
returns-in-Some c = λ φ g. rw c.in-Some.is (c.is_call_permitted.ensures φ g)

pub returns-in-None : goal.returns-in-None
unfolding call_read call_permitted
returns-in-None c = λ φ g. rw c.in-None.is
