-- By how the run ends.
-- Assumes nothing.
use mathlib.Core.Path.{◌≡◌}
use Rattle.std.specs.Prelude.{Option, Some}
use Rattle.choice.specs.declared.End.{End}
use Rattle.running.specs.Running.{answer_back}
use Rattle.running.proofs.runs.RunAnswerFromOptionEnd.from.Goals as goal

ended-so : (o : Option End) (x y : End) → o ≡ Some x → x ≡ y → answer_back (Some y) ≡ answer_back o
ended-so o x y e f = rw (e, f)

pub returns-in-Some-True : goal.returns-in-Some-True
unfolding answer_back
returns-in-Some-True c = ended-so _ _ _ c.in-Some-True.is (rw c.in-Some-True.is at c.in-Some-True.field-0-is)

pub returns-in-Some-False : goal.returns-in-Some-False
unfolding answer_back
returns-in-Some-False c = ended-so _ _ _ c.in-Some-False.is (rw c.in-Some-False.is at c.in-Some-False.field-0-is)

pub returns-in-Some-Finished : goal.returns-in-Some-Finished
unfolding answer_back
returns-in-Some-Finished c = ended-so _ _ _ c.in-Some-Finished.is (rw c.in-Some-Finished.is at c.in-Some-Finished.field-0-is)

pub returns-in-Some-OutOfRoom : goal.returns-in-Some-OutOfRoom
unfolding answer_back
returns-in-Some-OutOfRoom c = ended-so _ _ _ c.in-Some-OutOfRoom.is (rw c.in-Some-OutOfRoom.is at c.in-Some-OutOfRoom.field-0-is)

pub returns-in-None : goal.returns-in-None
unfolding answer_back
returns-in-None c = rw c.in-None.is
