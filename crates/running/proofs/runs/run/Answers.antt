-- By what is said of the tables and of the allowance.
-- Assumes nothing.
use Rattle.standing.proofs.LentLaws.{lends, lent}
use Rattle.running.proofs.RunLaws.{runs-unfit, runs-allowance, runs-given}
use Rattle.running.proofs.runs.run.Goals as goal

pub returns-then-allowance-gt1000 : goal.returns-then-allowance-gt1000
returns-then-allowance-gt1000 c = runs-allowance _ _ _ _ _ _ _ c.literals_answer.ensures c.in-Ok.is c.if-allowance-gt1000.true _ c.refuse.ensures

pub run-r-requires : goal.run-r-requires
run-r-requires c = (lent _ _ _ _ c.literals_answer.ensures c.in-Ok.is, c.if-allowance-gt1000.false)

pub returns-else-allowance-gt1000 : goal.returns-else-allowance-gt1000
returns-else-allowance-gt1000 c = runs-given _ _ _ _ _ _ _ c.literals_answer.ensures c.in-Ok.is c.if-allowance-gt1000.false _ _ _ _ (c.run-r.ensures _ (lends _ _ _ _ c.literals_answer.ensures c.in-Ok.is)) _ c.give_run.ensures

pub returns-in-Err : goal.returns-in-Err
returns-in-Err c = runs-unfit _ _ _ _ _ _ _ c.literals_answer.ensures _ c.in-Err.is _ (rw c.into.ensures at c.refuse-in-Err.ensures)
