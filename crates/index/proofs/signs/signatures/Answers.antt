-- What is behind the last list.
-- Assumes nothing.
use native.Mathlib.Omega.{arith}
use Rattle.index.proofs.ReadLaws.{signs-there, signs-are}
use Rattle.index.proofs.signs.signatures.Goals as goal

pub offset_bounds-index-start : goal.offset_bounds-index-start
offset_bounds-index-start c = omega (arith, signs-there c.requires.indexes _ (c.list_start-start.ensures _ c.requires.indexes))

pub slice_bounds-result-count : goal.slice_bounds-result-count
slice_bounds-result-count c = omega (arith, signs-there c.requires.indexes _ (c.list_start-start.ensures _ c.requires.indexes))

pub slice_bounds-result-start : goal.slice_bounds-result-start
slice_bounds-result-start c = omega (arith, signs-there c.requires.indexes _ (c.list_start-start.ensures _ c.requires.indexes))

pub slice_bounds-result-end : goal.slice_bounds-result-end
slice_bounds-result-end c = omega (arith, signs-there c.requires.indexes _ (c.list_start-start.ensures _ c.requires.indexes))

pub returns : goal.returns
returns c = λ φ h. signs-are h _ (c.list_start-start.ensures φ h)
