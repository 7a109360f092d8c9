-- By what tells at little cost, then by the literals.
-- Assumes nothing.
use mathlib.Core.Path.{sym}
use Rattle.table.proofs.HoldLaws.{held}
use Rattle.permits.proofs.PlaceLaws.{entries-of}
use Rattle.search.proofs.StudyLaws.{clause-rises}
use Rattle.search.proofs.StrengthenLaws.{strong-is}
use Rattle.search.proofs.strengthening.is_strengthened.Goals as goal

pub wider-requires-clause-held : goal.wider-requires-clause-held
wider-requires-clause-held c = held c.args.at.now.studied.holds

pub returns-in-Some : goal.returns-in-Some
returns-in-Some c =
    λ φ s g. let h = s.holds in
    let w = s.well in
    let y = c.in-Some.ensures.there in
    let f = y.2 φ h in
    strong-is h _ _ c.requires.a_lt_clauses y.0 _ _ g.is f _
    (c.strengthens_part.ensures φ.prefix s.ranked (entries-of φ w h.fitting) (clause-rises h w _ c.requires.a_lt_clauses _ g.is)
    (clause-rises h w _ y.0 _ f))

pub returns-in-None : goal.returns-in-None
returns-in-None c = λ φ s g. sym (c.in-None.ensures.none φ s.holds s.well g).1
