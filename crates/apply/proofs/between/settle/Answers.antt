-- By the answer.
-- Assumes nothing.
use mathlib.Core.Path.{refl}
use Rattle.apply.proofs.between.settle.Goals as goal

pub returns-in-Ok : goal.returns-in-Ok
returns-in-Ok c = rw c.in-Ok.is (c.zero.ensures, refl)

pub returns-in-Err : goal.returns-in-Err
returns-in-Err c = rw c.in-Err.is (refl, c.zero-in-Err.ensures)
