-- The invariant: the walk stands at k. Each link leads to the left.
-- Assumes nothing.
use Prim.Native.Nat.{◌+◌, ◌-◌}
use native.Mathlib.Omega.{arith}
use Rattle.table.proofs.HoldLaws.{held}
use Rattle.marks.specs.Marks.{slots}
use Rattle.marks.proofs.SlotLaws.{slot-below}
use Rattle.marks.proofs.WalkLaws.{walk_start, walk-less, walk-found, walk_turn, walk_end, walk-few}
use Rattle.marks.proofs.is_marked.Goals as goal

pub offset_bounds-marks-slot : goal.offset_bounds-marks-slot
offset_bounds-marks-slot c = let k = slot-below _ _ c.requires.slot_value in omega arith

pub bounds-marks-slot : goal.bounds-marks-slot
bounds-marks-slot c = let k = slot-below _ _ c.requires.slot_value in omega (arith, c.requires.marked.marks.long)

pub overflow_cast-k : goal.overflow_cast-k
overflow_cast-k c = omega (arith, c.type_inv.marks c.args.slot)

pub loop-k-init : goal.loop-k-init
loop-k-init c = λ φ h k. walk_start k _ _ c.requires.slot_value

pub clause_at-requires-clause-held : goal.clause_at-requires-clause-held
clause_at-requires-clause-held c =
    let b = walk-few c.requires.marked.holds _ _ (c.loop-k.invariant c.requires.marked.formula c.requires.marked.holds c.requires.marked.marks) in
    held c.requires.marked.holds

pub clause_at-requires-clause-i_lt_clauses : goal.clause_at-requires-clause-i_lt_clauses
clause_at-requires-clause-i_lt_clauses c =
    let b = walk-few c.requires.marked.holds _ _ (c.loop-k.invariant c.requires.marked.formula c.requires.marked.holds c.requires.marked.marks) in
    omega (arith, c.loop-k-test.true)

pub returns-then-equal : goal.returns-then-equal
returns-then-equal c =
    λ φ h k. walk-found k _ _ (c.loop-k.invariant φ h k) (omega (arith, c.loop-k-test.true))
    _ _ (c.clause_at.ensures φ h) c.equal.ensures c.if-equal.true

pub overflow_add-at : goal.overflow_add-at
overflow_add-at c =
    let b = walk-few c.requires.marked.holds _ _ (c.loop-k.invariant c.requires.marked.formula c.requires.marked.holds c.requires.marked.marks) in
    omega arith

pub offset_bounds-marks-at : goal.offset_bounds-marks-at
offset_bounds-marks-at c =
    let b = walk-few c.requires.marked.holds _ _ (c.loop-k.invariant c.requires.marked.formula c.requires.marked.holds c.requires.marked.marks) in
    omega arith

pub bounds-marks-at : goal.bounds-marks-at
bounds-marks-at c =
    let b = walk-few c.requires.marked.holds _ _ (c.loop-k.invariant c.requires.marked.formula c.requires.marked.holds c.requires.marked.marks) in
    omega (arith, c.requires.marked.marks.long, c.loop-k-test.true)

pub overflow_cast-k-in-loop-k : goal.overflow_cast-k-in-loop-k
overflow_cast-k-in-loop-k c = omega (arith, c.type_inv.marks (slots + (c.loop-k.k - 1)))

pub loop-k-smaller : goal.loop-k-smaller
loop-k-smaller c = walk-less c.requires.marked.marks _ _ (c.loop-k.invariant c.requires.marked.formula c.requires.marked.holds c.requires.marked.marks) (omega (arith, c.loop-k-test.true))

pub loop-k-preserved : goal.loop-k-preserved
loop-k-preserved c =
    λ φ h k. walk_turn k _ _ (c.loop-k.invariant φ h k) (omega (arith, c.loop-k-test.true))
    _ _ (c.clause_at.ensures φ h) c.equal.ensures c.if-equal.false

pub returns : goal.returns
returns c = λ φ h k. walk_end (c.loop-k.invariant φ h k) (omega arith)
