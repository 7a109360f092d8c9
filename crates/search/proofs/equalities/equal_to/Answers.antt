-- The other clause of the pair has the opposite of a's first literal.
-- Assumes nothing.
use Rattle.search.proofs.AmongLaws.{equal-among, equal-none}
use Rattle.search.proofs.equalities.equal_to.Goals as goal

pub returns-then-clause-ne2 : goal.returns-then-clause-ne2
returns-then-clause-ne2 c = λ φ h x. equal-none φ _ _ (c.clause_at-clause.ensures φ h) c.if-clause-ne2.true

pub returns : goal.returns
returns c =
    λ φ h x. equal-among φ _ _ _ (c.clauses_with.ensures φ x) _ (c.clause_at-clause.ensures φ h) _
    c.flip-l.ensures (c.first_equal.ensures φ h)
