-- By the call.
-- Assumes nothing.
use Rattle.permits.specs.Calls.{called}
use Rattle.steps.specs.Decide.{call_permitted}
use Rattle.apply.specs.Applied.{call_result}
use Rattle.apply.proofs.calls.perform.Goals as goal

pub returns-in-Unit : goal.returns-in-Unit
unfolding called call_permitted call_result
returns-in-Unit c = λ φ g p. rw c.in-Unit.is (c.unit_into.ensures φ g)

pub returns-in-Pure : goal.returns-in-Pure
unfolding called call_permitted call_result
returns-in-Pure c = λ φ g p. rw c.in-Pure.is (c.pure_into.ensures φ g (rw c.in-Pure.is at p))

pub returns-in-Subsume : goal.returns-in-Subsume
unfolding called call_permitted call_result
returns-in-Subsume c = λ φ g p. rw c.in-Subsume.is (c.subsume_into.ensures φ g)

pub returns-in-Strengthen : goal.returns-in-Strengthen
unfolding called call_permitted call_result
returns-in-Strengthen c = λ φ g p. rw c.in-Strengthen.is (c.strengthen_into.ensures φ g (rw c.in-Strengthen.is at p))

pub returns-in-Equality : goal.returns-in-Equality
unfolding called call_permitted call_result
returns-in-Equality c = λ φ g p. rw c.in-Equality.is (c.equality_into.ensures φ g (rw c.in-Equality.is at p))

pub returns-in-Resolve : goal.returns-in-Resolve
unfolding called call_permitted call_result
returns-in-Resolve c = λ φ g p. rw c.in-Resolve.is (c.resolve_into.ensures φ g (rw c.in-Resolve.is at p))

pub returns-in-Expand : goal.returns-in-Expand
unfolding called call_permitted call_result
returns-in-Expand c = λ φ g p. rw c.in-Expand.is (c.expand_into.ensures φ g (rw c.in-Expand.is at p))
