-- By the kind of choice.
-- Assumes nothing.
use mathlib.Core.Path.{ap}
use mathlib.Core.Bool.{not}
use Rattle.recipes.specs.Recipe.{taken}
use Rattle.recipes.proofs.recipes.is_taken.Goals as goal

pub returns-in-All : goal.returns-in-All
unfolding taken
returns-in-All c = λ q r. rw c.in-All.is

pub returns-in-But : goal.returns-in-But
unfolding taken
returns-in-But c = λ q r. rw c.in-But.is

pub returns-in-Without : goal.returns-in-Without
unfolding taken
returns-in-Without c = λ q r. rw c.in-Without.is (ap not c.contains.ensures)

pub returns-in-Free : goal.returns-in-Free
unfolding taken
returns-in-Free c = λ q r. rw c.in-Free.is c.has_neither.ensures

pub returns-in-Near : goal.returns-in-Near
unfolding taken
returns-in-Near c = λ q r. rw c.in-Near.is (ap not (c.reaches_behind.ensures q r))

pub returns-in-Far : goal.returns-in-Far
unfolding taken
returns-in-Far c = λ q r. rw c.in-Far.is (c.is_far.ensures q r)
