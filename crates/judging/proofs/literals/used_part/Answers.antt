-- The used part is where the literals stand.
-- Assumes nothing.
use native.Mathlib.Omega.{arith}
use Rattle.table.proofs.HoldLaws.{bounds, used-is}
use Rattle.judging.proofs.literals.used_part.Goals as goal

pub overflow_add-end : goal.overflow_add-end
overflow_add-end c = let b = bounds c.requires in omega arith

pub slice_bounds-result-end : goal.slice_bounds-result-end
slice_bounds-result-end c = let b = bounds c.requires in omega arith

pub returns : goal.returns
returns c = λ φ h. used-is h
