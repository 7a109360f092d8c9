-- The part of the table between two starts.
-- Assumes nothing.
use native.Mathlib.Omega.{arith}
use Rattle.table.proofs.HoldLaws.{clause-is, clause-within}
use Rattle.table.proofs.parts.clause_at.Goals as goal

pub offset_bounds-t-start : goal.offset_bounds-t-start
offset_bounds-t-start c = let φ = c.requires.held.formula in
    let h = c.requires.held.holds in
    let w = clause-within h c.args.i _ _ c.requires.i_lt_clauses (c.start_of-start.ensures φ h) (c.start_of-end.ensures φ h) in
    omega arith

pub slice_bounds-result-count : goal.slice_bounds-result-count
slice_bounds-result-count c = let φ = c.requires.held.formula in
    let h = c.requires.held.holds in
    let w = clause-within h c.args.i _ _ c.requires.i_lt_clauses (c.start_of-start.ensures φ h) (c.start_of-end.ensures φ h) in
    omega arith

pub slice_bounds-result-start : goal.slice_bounds-result-start
slice_bounds-result-start c = let φ = c.requires.held.formula in
    let h = c.requires.held.holds in
    let w = clause-within h c.args.i _ _ c.requires.i_lt_clauses (c.start_of-start.ensures φ h) (c.start_of-end.ensures φ h) in
    omega arith

pub slice_bounds-result-end : goal.slice_bounds-result-end
slice_bounds-result-end c = let φ = c.requires.held.formula in
    let h = c.requires.held.holds in
    let w = clause-within h c.args.i _ _ c.requires.i_lt_clauses (c.start_of-start.ensures φ h) (c.start_of-end.ensures φ h) in
    omega arith

pub returns : goal.returns
returns c = λ φ h. clause-is h c.args.i _ _ c.requires.i_lt_clauses (c.start_of-start.ensures φ h) (c.start_of-end.ensures φ h)
