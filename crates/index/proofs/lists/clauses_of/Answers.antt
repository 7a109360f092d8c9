-- The part of the index from the start of one list to the end of the next.
-- Assumes nothing.
use Prim.Native.Nat.{◌*◌}
use native.Mathlib.Omega.{arith}
use Rattle.index.proofs.ReadLaws.{pair-there, pair_is, pair-none}
use Rattle.index.proofs.lists.clauses_of.Goals as goal

pub returns-then-v-gt1023 : goal.returns-then-v-gt1023
returns-then-v-gt1023 c = λ φ h. pair-none h (2 * c.args.v) (omega arith)

pub offset_bounds-index-start : goal.offset_bounds-index-start
offset_bounds-index-start c = omega (arith, pair-there c.requires.indexes (2 * c.args.v) _ _ (omega arith) (c.list_start-start.ensures c.requires.formula c.requires.indexes) (c.list_start-end.ensures c.requires.formula c.requires.indexes))

pub slice_bounds-result-count : goal.slice_bounds-result-count
slice_bounds-result-count c = omega (arith, pair-there c.requires.indexes (2 * c.args.v) _ _ (omega arith) (c.list_start-start.ensures c.requires.formula c.requires.indexes) (c.list_start-end.ensures c.requires.formula c.requires.indexes))

pub slice_bounds-result-start : goal.slice_bounds-result-start
slice_bounds-result-start c = omega (arith, pair-there c.requires.indexes (2 * c.args.v) _ _ (omega arith) (c.list_start-start.ensures c.requires.formula c.requires.indexes) (c.list_start-end.ensures c.requires.formula c.requires.indexes))

pub slice_bounds-result-end-2 : goal.slice_bounds-result-end-2
slice_bounds-result-end-2 c = omega (arith, pair-there c.requires.indexes (2 * c.args.v) _ _ (omega arith) (c.list_start-start.ensures c.requires.formula c.requires.indexes) (c.list_start-end.ensures c.requires.formula c.requires.indexes))

pub returns : goal.returns
returns c = λ φ h. pair_is h (2 * c.args.v) _ _ (omega arith) (c.list_start-start.ensures φ h) (c.list_start-end.ensures φ h)
