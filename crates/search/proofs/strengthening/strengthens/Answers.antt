-- By what tells at little cost, then by the literals.
-- Assumes nothing.
use mathlib.Core.Path.{sym}
use Rattle.table.proofs.HoldLaws.{held}
use Rattle.permits.proofs.PlaceLaws.{entries-of}
use Rattle.search.proofs.StudyLaws.{clause-rises}
use Rattle.search.proofs.StrengthenLaws.{strong-is}
use Rattle.search.proofs.strengthening.strengthens.Goals as goal

pub narrower-requires-clause-held : goal.narrower-requires-clause-held
narrower-requires-clause-held c = held c.args.at.now.studied.holds

pub returns-in-Some : goal.returns-in-Some
returns-in-Some c =
    λ φ s at_b. let h = s.holds in
    let w = s.well in
    let x = c.in-Some.ensures.there in
    let at_a = x.2 φ h in
    strong-is h _ _ x.0 c.requires.b_lt_clauses _ _ at_a at_b _
    (c.strengthens_part.ensures φ.prefix s.ranked (entries-of φ w h.fitting) (clause-rises h w _ x.0 _ at_a)
    (clause-rises h w _ c.requires.b_lt_clauses _ at_b))

pub returns-in-None : goal.returns-in-None
returns-in-None c = λ φ s at_b. sym (c.in-None.ensures.none φ s.holds s.well at_b).1
