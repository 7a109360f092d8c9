-- The clause, where it is there; past the end there is none.
-- Assumes nothing.
use mathlib.Core.Path.{sym}
use native.Mathlib.Omega.{arith}
use lib.Seq.{length-take-le}
use Rattle.table.proofs.HoldLaws.{bounds}
use Rattle.reasoning.proofs.FarLaws.{variable-is, variable-none}
use Rattle.reasoning.proofs.far.far_variable.Goals as goal

pub returns-then-c-i : goal.returns-then-c-i
returns-then-c-i c = λ φ h. variable-none h c.args.n _ c.if-c-i.true

pub slice_bounds-leftmost_behind-end : goal.slice_bounds-leftmost_behind-end
slice_bounds-leftmost_behind-end c = let b = bounds c.requires in sym (length-take-le _ _ (omega arith))

pub returns : goal.returns
returns c = λ φ h. variable-is h c.args.n _ _ (c.clause_at.ensures φ h) _ c.leftmost_behind.ensures
