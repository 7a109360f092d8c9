-- The next in the row, or the first of the next row.
-- Assumes nothing.
use mathlib.Core.Path.{refl}
use Rattle.weigh.proofs.ResolvFile.{placed-next, placed_row}
use Rattle.weigh.proofs.pairing.next_pair.Goals as goal

pub returns-then-p-width : goal.returns-then-p-width
returns-then-p-width c = (refl, placed-next _ c.args.p c.requires.placed.0 c.requires.placed.1 c.if-p-width.true)

pub returns : goal.returns
returns c = (refl, placed_row _ c.args.p c.requires.placed.0 c.requires.placed.1 c.if-p-width.false)
