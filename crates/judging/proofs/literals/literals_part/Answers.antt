-- By the answer: the used part of the table that the record names, or nothing.
-- Assumes nothing.
use mathlib.Core.Path.{sym}
use Rattle.table.proofs.HoldLaws.{held}
use Rattle.judging.proofs.LiteralLaws.{none_given, given-at, given_is}
use Rattle.judging.proofs.literals.literals_part.Goals as goal

pub used_part-requires : goal.used_part-requires
used_part-requires c = held (given-at _ _ _ _ c.literals_answer.ensures c.in-Ok.is _ (sym c.named.ensures))

pub returns-in-Ok : goal.returns-in-Ok
returns-in-Ok c =
    given_is _ _ _ _ c.literals_answer.ensures c.in-Ok.is _ (sym c.named.ensures) _
    (c.used_part.ensures _ (given-at _ _ _ _ c.literals_answer.ensures c.in-Ok.is _ (sym c.named.ensures)))

pub returns-in-Err : goal.returns-in-Err
returns-in-Err c = none_given _ _ _ _ c.literals_answer.ensures _ c.in-Err.is
