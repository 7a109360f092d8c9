-- By what is said of the tables.
-- Assumes nothing.
use Rattle.apply.proofs.StepLaws.{nothing_known}
use Rattle.standing.proofs.LentLaws.{lends, lent}
use Rattle.replaying.proofs.StepLaws.{steps-unfit, steps-given}
use Rattle.replaying.proofs.stepping.step.Goals as goal

pub step-r-requires : goal.step-r-requires
step-r-requires c = (lent _ _ _ _ c.literals_answer.ensures c.in-Ok.is, λ φ h. nothing_known φ _)

pub returns-in-Ok : goal.returns-in-Ok
returns-in-Ok c = steps-given _ _ _ _ _ c.literals_answer.ensures c.in-Ok.is _ _ _ (c.step-r.ensures _ (lends _ _ _ _ c.literals_answer.ensures c.in-Ok.is)) _ c.give_back.ensures

pub returns-in-Err : goal.returns-in-Err
returns-in-Err c = rw c.into.ensures (steps-unfit _ _ _ _ _ c.literals_answer.ensures _ c.in-Err.is)
