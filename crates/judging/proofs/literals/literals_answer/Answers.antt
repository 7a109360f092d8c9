-- Lengths first, then the table that the record names.
-- Assumes nothing.
use mathlib.Core.Path.{sym}
use Rattle.judging.proofs.LiteralLaws.{wrong_first, wrong_second, asked_is}
use Rattle.judging.proofs.literals.literals_answer.Goals.{then-first-ne-TABLE-via-then-first-ne-TABLE, then-first-ne-TABLE-via-else-first-ne-TABLE+then-second-ne-TABLE}
use Rattle.judging.proofs.literals.literals_answer.Goals as goal

pub returns-then-first-ne-TABLE : goal.returns-then-first-ne-TABLE
returns-then-first-ne-TABLE c =
    elim c.then-first-ne-TABLE.branch [
      | then-first-ne-TABLE-via-then-first-ne-TABLE w ↦ wrong_first _ _ _ w.if-first-ne-TABLE.true
      | then-first-ne-TABLE-via-else-first-ne-TABLE+then-second-ne-TABLE w ↦ wrong_second _ _ _ w.if-first-ne-TABLE.false w.if-second-ne-TABLE.true
    ]

pub returns : goal.returns
returns c = asked_is _ _ _ c.if-first-ne-TABLE.false c.if-second-ne-TABLE.false _ (sym c.named.ensures) _ c.judge.ensures
