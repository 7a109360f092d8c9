-- Clause j is read, and compared.
-- Assumes nothing.
use Rattle.thinning.specs.Thin.{firm}
use Rattle.thinning.proofs.ReadLaws.{clause-small}
use Rattle.thinning.proofs.sides.has_firm.Goals as goal

pub last_by-requires : goal.last_by-requires
last_by-requires c = clause-small c.requires.readable c.args.j c.requires.j_lt_clauses.0 _ c.clause_at-x.ensures

pub same_firm-requires : goal.same_firm-requires
same_firm-requires c = (clause-small c.requires.readable c.args.j c.requires.j_lt_clauses.0 _ c.clause_at-x.ensures, c.requires.j_lt_clauses.1)

pub returns : goal.returns
unfolding firm
returns c = λ φ h. rw (← c.clause_at-x.ensures φ h, ← c.last_by.ensures) c.same_firm.ensures
