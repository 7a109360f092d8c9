-- By what tells at little cost, then by the literals.
-- Assumes nothing.
use mathlib.Core.Path.{sym}
use Rattle.permits.proofs.ClauseLaws.{subsume-is}
use Rattle.search.proofs.StudyLaws.{clause-rises}
use Rattle.search.proofs.subsumption.subsumes.Goals as goal

pub returns-in-Some : goal.returns-in-Some
returns-in-Some c =
    λ φ h w at_b. let x = c.in-Some.ensures.there in
    let at_a = x.2 φ h in
    subsume-is h _ _ x.0 c.requires.b_lt_clauses x.1 _ _ at_a at_b _
    (c.is_part.ensures (clause-rises h w _ x.0 _ at_a) (clause-rises h w _ c.requires.b_lt_clauses _ at_b))

pub returns-in-None : goal.returns-in-None
returns-in-None c = λ φ h w at_b. sym (c.in-None.ensures.none φ h w at_b).0
