-- The loop's invariant: clause j is the next that may stand in.
-- Assumes nothing.
use native.Mathlib.Omega.{arith}
use Rattle.table.proofs.HoldLaws.{bounds}
use Rattle.thinning.proofs.GoingLaws.{stand-in}
use Rattle.thinning.proofs.sides.is_stood_for.Goals as goal

pub next_raised-j-requires : goal.next_raised-j-requires
next_raised-j-requires c =
    let b = bounds c.requires.readable.held in
    (omega arith, omega (arith, c.requires.i_lt_clauses.0))

pub returns-then-has_firm : goal.returns-then-has_firm
returns-then-has_firm c = λ e φ h. stand-in c.loop-look.j (omega arith) (c.loop-look.invariant.1 (omega arith)) (c.has_firm.ensures φ h) c.if-has_firm.true

pub next_raised-j-requires-in-loop-look : goal.next_raised-j-requires-in-loop-look
next_raised-j-requires-in-loop-look c =
    let b = bounds c.requires.readable.held in
    (omega arith, omega (arith, c.requires.i_lt_clauses.0))
