-- The record is made of the numbers as they stand.
-- Assumes nothing.
use mathlib.Core.Path.{refl}
use Rattle.exports.specs.Records.{counts_in}
use Rattle.exports.proofs.records.counts_in.Goals as goal

pub returns : goal.returns
unfolding counts_in
returns c = (c.if-counts-gt1.false, refl)
