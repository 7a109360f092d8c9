-- By what is said of the tables: the table that the record names is written, or the call is refused.
-- Assumes nothing.
use mathlib.Core.Path.{sym}
use Rattle.table.proofs.HoldLaws.{held}
use Rattle.judging.proofs.LiteralLaws.{given-at}
use Rattle.writer.proofs.AnswerLaws.{wrote-unfit, wrote-told}
use Rattle.writer.proofs.write.Goals as goal

pub write_held-requires : goal.write_held-requires
write_held-requires c = held (given-at _ _ _ _ c.literals_answer.ensures c.in-Ok.is _ (sym c.named.ensures))

pub returns-in-Ok : goal.returns-in-Ok
returns-in-Ok c =
    wrote-told _ _ _ _ _ c.literals_answer.ensures c.in-Ok.is _ (sym c.named.ensures) _ _
    (c.write_held.ensures _ (given-at _ _ _ _ c.literals_answer.ensures c.in-Ok.is _ (sym c.named.ensures)))

pub returns-in-Err : goal.returns-in-Err
returns-in-Err c = rw c.into.ensures (wrote-unfit _ _ _ _ _ c.literals_answer.ensures _ c.in-Err.is)
