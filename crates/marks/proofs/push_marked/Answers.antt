-- By whether the table has room for the clause.
-- Assumes nothing.
use Rattle.table.proofs.HoldLaws.{held, count-clauses}
use Rattle.marks.proofs.SlotLaws.{slot-below}
use Rattle.marks.proofs.WentLaws.{push-few, push-done, push-full}
use Rattle.marks.proofs.push_marked.Goals as goal

pub push_clause-requires : goal.push_clause-requires
push_clause-requires c = held c.requires.marked.holds

pub add_mark-requires : goal.add_mark-requires
add_mark-requires c =
    let q = c.push_clause.ensures c.requires.marked.formula c.requires.marked.holds in
    (c.requires.marked.marks.long, slot-below _ _ c.requires.slot_value, push-few c.requires.marked.holds c.requires.marked.marks _ _ _ q _ c.in_ok-d.was)

pub returns : goal.returns
returns c =
    λ φ h k. push-done h k _ _ _ (c.push_clause.ensures φ h) _ c.in_ok-d.was
    _ (c.add_mark.ensures φ.clauses _ k (count-clauses h) c.requires.slot_value)

pub returns-in_err-d : goal.returns-in_err-d
returns-in_err-d c = λ φ h k. rw c.from_residual.ensures (push-full h k _ _ _ (c.push_clause.ensures φ h) c.in_err-d.was)
