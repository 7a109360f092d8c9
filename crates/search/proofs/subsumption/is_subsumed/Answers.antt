-- By what tells at little cost, then by the literals.
-- Assumes nothing.
use mathlib.Core.Path.{sym}
use Rattle.permits.proofs.ClauseLaws.{subsume-is}
use Rattle.search.proofs.StudyLaws.{clause-rises}
use Rattle.search.proofs.subsumption.is_subsumed.Goals as goal

pub returns-in-Some : goal.returns-in-Some
returns-in-Some c =
    λ φ h w g. let y = c.in-Some.ensures.there in
    let f = y.2 φ h in
    subsume-is h _ _ c.requires.a_lt_clauses y.0 y.1 _ _ g.is f _
    (c.is_part.ensures (clause-rises h w _ c.requires.a_lt_clauses _ g.is) (clause-rises h w _ y.0 _ f))

pub returns-in-None : goal.returns-in-None
returns-in-None c = λ φ h w g. sym (c.in-None.ensures.none φ h w g).0
