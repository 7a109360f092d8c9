-- The side is a number.
-- Assumes nothing.
use Rattle.exports.proofs.RecordLaws.{given-record}
use Rattle.exports.proofs.records.give.Goals as goal

pub returns : goal.returns
returns c = given-record c.args.c c.args.n
