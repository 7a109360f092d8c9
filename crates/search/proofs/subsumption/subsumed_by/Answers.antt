-- What clause a is a part of has the rarest literal of a.
-- Assumes nothing.
use Rattle.search.proofs.PrefixLaws.{has-in}
use Rattle.search.proofs.AmongLaws.{subsume-among, not-empty}
use Rattle.search.proofs.subsumption.subsumed_by.Goals as goal

pub returns-in_err-l : goal.returns-in_err-l
returns-in_err-l c = λ φ h x n. absurd (not-empty φ _ _ (c.clause_at-x.ensures φ h) h c.requires.a_lt_clauses n c.in_err-l.ensures)

pub returns : goal.returns
returns c =
    λ φ h x n. let e = c.clause_at-x.ensures φ h in
    subsume-among φ _ _ _ (c.clauses_with.ensures φ x) _ e _ (has-in _ _ c.in_ok-l.ensures)
    (c.first_subsumed.ensures φ h x.well (record { is = e; own = c.signature-sign.ensures; all = c.signatures-signs.ensures φ x }))
