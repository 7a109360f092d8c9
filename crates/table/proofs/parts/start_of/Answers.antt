-- The end of the clause before it, which the table holds.
-- Assumes nothing.
use Prim.Native.Nat.{◌-◌, ◌+◌}
use native.Mathlib.Omega.{arith}
use Rattle.table.proofs.HoldLaws.{bounds, start_first, start-later}
use Rattle.table.proofs.parts.start_of.Goals as goal

pub returns-then-i-eq0 : goal.returns-then-i-eq0
returns-then-i-eq0 c = λ φ h. start_first h c.args.i c.if-i-eq0.true

pub overflow_add-e : goal.overflow_add-e
overflow_add-e c = let b = bounds c.requires.held in omega arith

pub offset_bounds-t-e : goal.offset_bounds-t-e
offset_bounds-t-e c = let b = bounds c.requires.held in omega arith

pub bounds-t-e : goal.bounds-t-e
bounds-t-e c = let b = bounds c.requires.held in omega arith

pub overflow_cast-result : goal.overflow_cast-result
overflow_cast-result c = omega (arith, c.type_inv.t (1023 + (c.args.i - 1)))

pub overflow_add-result : goal.overflow_add-result
overflow_add-result c = omega (arith, c.type_inv.t (1023 + (c.args.i - 1)))

pub returns : goal.returns
returns c = λ φ h. start-later h c.args.i c.if-i-eq0.false c.requires.i_le_clauses
