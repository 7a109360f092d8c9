-- The clause goes to the free tail, its end behind the ends.
-- Assumes nothing.
use Prim.Native.Nat.{◌-◌, ◌+◌}
use native.Mathlib.Omega.{arith}
use lib.ListN.{length, length-take, length-drop}
use Rattle.table.proofs.HoldLaws.{bounds}
use Rattle.table.proofs.AnswerLaws.{full-clauses, full-literals, done-lent}
use borrow.Rule.Slice.PartMut.{same_len_mid}
use Rattle.table.proofs.clauses.push_clause.Goals.{then-n-ge-CLAUSES-via-then-n-ge-CLAUSES, then-n-ge-CLAUSES-via-else-n-ge-CLAUSES+then-m-clause}
use Rattle.table.proofs.clauses.push_clause.Goals as goal

pub returns-then-n-ge-CLAUSES : goal.returns-then-n-ge-CLAUSES
returns-then-n-ge-CLAUSES c = λ φ h. elim c.then-n-ge-CLAUSES.branch [
  | then-n-ge-CLAUSES-via-then-n-ge-CLAUSES w ↦ full-clauses h _ w.if-n-ge-CLAUSES.true
  | then-n-ge-CLAUSES-via-else-n-ge-CLAUSES+then-m-clause w ↦ full-literals h _ w.if-m-clause.true
]

pub overflow_sub-m : goal.overflow_sub-m
overflow_sub-m c = let b = bounds c.requires in b.literals

pub overflow_add-at : goal.overflow_add-at
overflow_add-at c = let b = bounds c.requires in omega arith

pub offset_bounds-t-at : goal.offset_bounds-t-at
offset_bounds-t-at c = let b = bounds c.requires in omega arith

pub slice_bounds-write_clause-count : goal.slice_bounds-write_clause-count
slice_bounds-write_clause-count c = let b = bounds c.requires in omega arith

pub slice_bounds-write_clause-start : goal.slice_bounds-write_clause-start
slice_bounds-write_clause-start c = let b = bounds c.requires in omega arith

pub write_clause-requires : goal.write_clause-requires
write_clause-requires c =
    let b = bounds c.requires in
    simp (length-take, length-drop) (omega arith)

pub overflow_cast-t : goal.overflow_cast-t
overflow_cast-t c =
    let b = bounds c.requires in
    omega arith

pub bounds-t-e : goal.bounds-t-e
bounds-t-e c =
    let b = bounds c.requires in
    let at = 3070 + c.args.c.literals in
    omega (arith, same_len_mid at (length c.args.t.now - at) c.args.t.now c.write_clause.new.tail c.write_clause.auto.tail)

pub with_clause-requires : goal.with_clause-requires
with_clause-requires c =
    let b = bounds c.requires in
    omega arith

pub returns : goal.returns
returns c =
    let b = bounds c.requires in
    λ φ h. done-lent h _ c.write_clause.new.tail _ (omega arith) (omega arith) c.write_clause.ensures c.with_clause.ensures
