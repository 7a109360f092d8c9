-- The part of the index between two starts.
-- Assumes nothing.
use native.Mathlib.Omega.{arith}
use Rattle.index.proofs.ReadLaws.{list-there, list-is, list-none}
use Rattle.index.proofs.lists.clauses_with.Goals as goal

pub returns-then-literal-gt2047 : goal.returns-then-literal-gt2047
returns-then-literal-gt2047 c = λ φ h. list-none h _ (omega arith)

pub offset_bounds-index-start : goal.offset_bounds-index-start
offset_bounds-index-start c = omega (arith, list-there c.requires.indexes c.args.literal _ _ (omega arith) (c.list_start-start.ensures c.requires.formula c.requires.indexes) (c.list_start-end.ensures c.requires.formula c.requires.indexes))

pub slice_bounds-result-count : goal.slice_bounds-result-count
slice_bounds-result-count c = omega (arith, list-there c.requires.indexes c.args.literal _ _ (omega arith) (c.list_start-start.ensures c.requires.formula c.requires.indexes) (c.list_start-end.ensures c.requires.formula c.requires.indexes))

pub slice_bounds-result-start : goal.slice_bounds-result-start
slice_bounds-result-start c = omega (arith, list-there c.requires.indexes c.args.literal _ _ (omega arith) (c.list_start-start.ensures c.requires.formula c.requires.indexes) (c.list_start-end.ensures c.requires.formula c.requires.indexes))

pub slice_bounds-result-end-2 : goal.slice_bounds-result-end-2
slice_bounds-result-end-2 c = omega (arith, list-there c.requires.indexes c.args.literal _ _ (omega arith) (c.list_start-start.ensures c.requires.formula c.requires.indexes) (c.list_start-end.ensures c.requires.formula c.requires.indexes))

pub returns : goal.returns
returns c = λ φ h. list-is h c.args.literal _ _ (omega arith) (c.list_start-start.ensures φ h) (c.list_start-end.ensures φ h)
