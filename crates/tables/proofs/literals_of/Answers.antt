-- A part of seven is no table.
-- Assumes nothing.
use mathlib.Core.Path.{sym}
use lib.Seq.{length-take-le}
use Rattle.tables.proofs.literals_of.Goals as goal

pub slice_bounds-say_literals-end : goal.slice_bounds-say_literals-end
slice_bounds-say_literals-end g c = sym (length-take-le 7 c.args.second.now c.if-second-ge7.true)
