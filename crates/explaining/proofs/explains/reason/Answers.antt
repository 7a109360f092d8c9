-- By what is said of the tables and of the allowance.
-- Assumes nothing.
use Rattle.standing.proofs.LentLaws.{lends, lent}
use Rattle.explaining.proofs.ExplainLaws.{explains-unfit, explains-allowance, explains-given}
use Rattle.explaining.proofs.explains.reason.Goals as goal

pub returns-then-allowance-gt1000 : goal.returns-then-allowance-gt1000
returns-then-allowance-gt1000 c = explains-allowance _ _ _ _ _ _ c.literals_answer.ensures c.in-Ok.is c.if-allowance-gt1000.true _ c.give_back.ensures

pub reason_between-answer-requires : goal.reason_between-answer-requires
reason_between-answer-requires c = (lent _ _ _ _ c.literals_answer.ensures c.in-Ok.is, c.if-allowance-gt1000.false)

pub returns-else-allowance-gt1000 : goal.returns-else-allowance-gt1000
returns-else-allowance-gt1000 c = explains-given _ _ _ _ _ _ c.literals_answer.ensures c.in-Ok.is c.if-allowance-gt1000.false _ _ _ (c.reason_between-answer.ensures _ (lends _ _ _ _ c.literals_answer.ensures c.in-Ok.is)) _ c.give_back-in-Ok.ensures

pub returns-in-Err : goal.returns-in-Err
returns-in-Err c = explains-unfit _ _ _ _ _ _ c.literals_answer.ensures _ c.in-Err.is _ (rw c.into.ensures at c.give_back-in-Err.ensures)
