-- By the tests, one after the other.
-- Assumes nothing.
use Rattle.permits.proofs.ClauseLaws.{equal-order, equal-absent, equal_is}
use Rattle.permits.proofs.equalities.equality_permitted.Goals.{then-b-a-via-then-b-a, then-b-a-via-else-b-a+then-c-b}
use Rattle.permits.proofs.equalities.equality_permitted.Goals as goal

pub returns-then-b-a : goal.returns-then-b-a
returns-then-b-a c = λ φ h.
    elim c.then-b-a.branch [
      | then-b-a-via-then-b-a w ↦ equal-order h _ _ w.if-b-a.true
      | then-b-a-via-else-b-a+then-c-b w ↦ equal-absent h _ _ w.if-b-a.false w.if-c-b.true
    ]

pub returns : goal.returns
returns c = λ φ h. equal_is h _ _ c.if-b-a.false c.if-c-b.false _ _ (c.clause_at.ensures φ h) (c.clause_at-2.ensures φ h) _ c.opposite_pair.ensures
