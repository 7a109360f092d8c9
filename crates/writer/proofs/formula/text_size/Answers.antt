-- Header, quantifier lines and clauses, added up.
-- Assumes nothing.
use native.Mathlib.Omega.{arith}
use Rattle.table.proofs.HoldLaws.{bounds}
use Rattle.writer.proofs.TextLaws.{prefix-length, prefix-short, text-counted}
use Rattle.writer.proofs.formula.text_size.Goals as goal

pub slice_bounds-largest_variable-end : goal.slice_bounds-largest_variable-end
slice_bounds-largest_variable-end c = prefix-length c.requires.holds

pub overflow_cast-c : goal.overflow_cast-c
overflow_cast-c c = let b = bounds c.requires in omega arith

pub slice_bounds-prefix_size-end : goal.slice_bounds-prefix_size-end
slice_bounds-prefix_size-end c = prefix-length c.requires.holds

pub prefix_size-requires : goal.prefix_size-requires
prefix_size-requires c = prefix-short c.requires.holds

pub overflow_add-result : goal.overflow_add-result
overflow_add-result c = let b = prefix-short c.requires.holds in omega (arith, c.header_size.ensures.few, c.prefix_size.ensures.few)

pub clauses_size-requires : goal.clauses_size-requires
clauses_size-requires c = c.requires

pub overflow_add-result-2 : goal.overflow_add-result-2
overflow_add-result-2 c = let b = prefix-short c.requires.holds in omega (arith, c.header_size.ensures.few, c.prefix_size.ensures.few, (c.clauses_size.ensures _ c.requires.holds).few)

pub returns : goal.returns
returns c = λ φ h. text-counted h _ c.largest_variable-m.ensures _ _ _ c.header_size.ensures c.prefix_size.ensures (c.clauses_size.ensures φ h)
