-- By the two lengths.
-- Assumes nothing.
use Rattle.exports.proofs.RecordLaws.{number-first, number-second, number-side}
use Rattle.exports.proofs.records.side_number.Goals.{then-first-ne-TABLE-via-then-first-ne-TABLE, then-first-ne-TABLE-via-else-first-ne-TABLE+then-second-ne-TABLE}
use Rattle.exports.proofs.records.side_number.Goals as goal

pub returns-then-first-ne-TABLE : goal.returns-then-first-ne-TABLE
returns-then-first-ne-TABLE c =
    elim c.then-first-ne-TABLE.branch [
      | then-first-ne-TABLE-via-then-first-ne-TABLE w ↦ number-first _ _ w.if-first-ne-TABLE.true
      | then-first-ne-TABLE-via-else-first-ne-TABLE+then-second-ne-TABLE w ↦ number-second _ _ w.if-first-ne-TABLE.false w.if-second-ne-TABLE.true
    ]

pub returns : goal.returns
returns c = number-side _ _ c.if-first-ne-TABLE.false c.if-second-ne-TABLE.false
