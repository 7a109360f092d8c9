-- By the call.
-- Assumes nothing.
use Rattle.rules.specs.Step.{permitted}
use Rattle.permits.specs.Calls.{called}
use Rattle.steps.specs.Decide.{call_permitted}
use Rattle.steps.proofs.deciding.is_call_permitted.Goals as goal

pub returns-in-Unit : goal.returns-in-Unit
unfolding called call_permitted permitted
returns-in-Unit c = λ φ g. rw c.in-Unit.is (c.unit_permitted.ensures φ g.holds)

pub returns-in-Pure : goal.returns-in-Pure
unfolding called call_permitted permitted
returns-in-Pure c = λ φ g. rw c.in-Pure.is (c.pure_permitted.ensures φ g.holds g.well g.ranked)

pub returns-in-Subsume : goal.returns-in-Subsume
unfolding called call_permitted permitted
returns-in-Subsume c = λ φ g. rw c.in-Subsume.is (c.subsume_permitted.ensures φ g.holds)

pub returns-in-Strengthen : goal.returns-in-Strengthen
unfolding called call_permitted permitted
returns-in-Strengthen c = λ φ g. rw c.in-Strengthen.is (c.strengthen_permitted.ensures φ g)

pub returns-in-Equality : goal.returns-in-Equality
unfolding called call_permitted permitted
returns-in-Equality c = λ φ g. rw c.in-Equality.is (c.equality_permitted.ensures φ g.holds)

pub returns-in-Resolve : goal.returns-in-Resolve
unfolding called call_permitted permitted
returns-in-Resolve c = λ φ g. rw c.in-Resolve.is (c.resolve_permitted.ensures φ g.holds g.well g.ranked)

pub returns-in-Expand : goal.returns-in-Expand
unfolding called call_permitted permitted
returns-in-Expand c = λ φ g. rw c.in-Expand.is (c.expand_permitted.ensures φ g.holds g.well g.ranked)
