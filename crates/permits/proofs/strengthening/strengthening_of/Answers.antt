-- By the tests, one after the other.
-- Assumes nothing.
use Rattle.permits.proofs.PlaceLaws.{entries-of}
use Rattle.permits.proofs.StrengthenLaws.{strengthen-no-a, strengthen-no-b, strengthen-is}
use Rattle.permits.proofs.strengthening.strengthening_of.Goals.{then-c-a-via-then-c-a, then-c-a-via-else-c-a+then-c-b}
use Rattle.permits.proofs.strengthening.strengthening_of.Goals as goal

pub returns-then-c-a : goal.returns-then-c-a
returns-then-c-a c = λ φ h k e.
    elim c.then-c-a.branch [
      | then-c-a-via-then-c-a w ↦ strengthen-no-a h _ _ w.if-c-a.true
      | then-c-a-via-else-c-a+then-c-b w ↦ strengthen-no-b h _ _ w.if-c-a.false w.if-c-b.true
    ]

pub returns : goal.returns
returns c = λ φ h w e. strengthen-is h _ _ c.if-c-a.false c.if-c-b.false _ _ (c.clause_at.ensures φ h) (c.clause_at-2.ensures φ h) _ (c.first_strengthening.ensures φ.prefix e (entries-of φ w h.fitting))
