-- By whether it has the literal.
-- Assumes nothing.
use Rattle.resolving.proofs.PairLaws.{clause-left, clause-taken}
use Rattle.resolving.proofs.resolving.add_clause_pairs.Goals as goal

pub returns-then-contains : goal.returns-then-contains
returns-then-contains c = λ φ ψ h k. clause-taken _ _ φ.clauses _ _ c.contains.ensures ψ _ _ _ c.if-contains.true (c.add_pairs.ensures φ ψ h k)

pub returns : goal.returns
returns c = λ φ ψ h k. clause-left _ _ _ _ _ c.contains.ensures k c.if-contains.false
