-- By the tests, one after the other.
-- Assumes nothing.
use Rattle.permits.proofs.ClauseLaws.{subsume-no-a, subsume-no-b, subsume-same, subsume-is}
use Rattle.permits.proofs.subsumption.subsume_permitted.Goals.{then-c-a-via-then-c-a, then-c-a-via-else-c-a+then-c-b, then-c-a-via-else-c-a+else-c-b+then-a-b}
use Rattle.permits.proofs.subsumption.subsume_permitted.Goals as goal

pub returns-then-c-a : goal.returns-then-c-a
returns-then-c-a c = λ φ h.
    elim c.then-c-a.branch [
      | then-c-a-via-then-c-a w ↦ subsume-no-a h _ _ w.if-c-a.true
      | then-c-a-via-else-c-a+then-c-b w ↦ subsume-no-b h _ _ w.if-c-a.false w.if-c-b.true
      | then-c-a-via-else-c-a+else-c-b+then-a-b w ↦ subsume-same h _ _ w.if-c-a.false w.if-c-b.false w.if-a-b.true
    ]

pub returns : goal.returns
returns c = λ φ h. subsume-is h _ _ c.if-c-a.false c.if-c-b.false c.if-a-b.false _ _ (c.clause_at.ensures φ h) (c.clause_at-2.ensures φ h) _ c.part_of.ensures
