-- Header, quantifier lines and clauses, one after the other.
-- Assumes nothing.
use native.Mathlib.Omega.{arith}
use Rattle.table.proofs.HoldLaws.{bounds}
use Rattle.writer.proofs.TextLaws.{prefix-length, header-room, prefix-room, clauses-room, text-written}
use Rattle.writer.proofs.formula.write_text.Goals as goal

pub slice_bounds-largest_variable-end : goal.slice_bounds-largest_variable-end
slice_bounds-largest_variable-end c = prefix-length c.requires.held.holds

pub overflow_cast-c : goal.overflow_cast-c
overflow_cast-c c = let b = bounds c.requires.held in omega arith

pub write_header-at-requires : goal.write_header-at-requires
write_header-at-requires c = header-room c.requires.held.holds _ c.largest_variable-m.ensures (c.requires.room _ c.requires.held.holds)

pub slice_bounds-write_prefix-end : goal.slice_bounds-write_prefix-end
slice_bounds-write_prefix-end c = prefix-length c.requires.held.holds

pub write_prefix-at-requires : goal.write_prefix-at-requires
write_prefix-at-requires c = prefix-room c.requires.held.holds _ c.largest_variable-m.ensures (c.requires.room _ c.requires.held.holds) c.write_header-at.ensures

pub write_clauses-requires-clause-held : goal.write_clauses-requires-clause-held
write_clauses-requires-clause-held c = c.requires.held

pub write_clauses-requires-clause-room : goal.write_clauses-requires-clause-room
write_clauses-requires-clause-room c = λ φ h. clauses-room h _ c.largest_variable-m.ensures (c.requires.room φ h) c.write_header-at.ensures c.write_prefix-at.ensures

pub returns : goal.returns
returns c = λ φ h. text-written h _ c.largest_variable-m.ensures c.write_header-at.ensures c.write_prefix-at.ensures (c.write_clauses.ensures φ h)
