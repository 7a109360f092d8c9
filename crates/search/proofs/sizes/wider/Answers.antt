-- By the signatures, then by the two numbers, then by the sizes.
-- Assumes nothing.
use mathlib.Core.Path.{sym}
use Rattle.permits.proofs.ClauseLaws.{subsume-no-b, subsume-same, subsume-is}
use Rattle.walks.proofs.MergeLaws.{part-longer}
use Rattle.search.proofs.StudyLaws.{clause-rises}
use Rattle.search.proofs.SignedLaws.{subsume-needs, strengthen-needs, unsigned}
use Rattle.search.proofs.StrengthenLaws.{strong-absent, strong-itself, strong-short}
use Rattle.search.proofs.sizes.wider.Goals as goal

pub returns-then-not-may_be_part-clause-none : goal.returns-then-not-may_be_part-clause-none
returns-then-not-may_be_part-clause-none c =
    λ φ h w g. (
      sym (unsigned φ _ _ g _ c.may_be_part.ensures c.if-not-may_be_part.true _ (subsume-needs φ _ _)),
      sym (unsigned φ _ _ g _ c.may_be_part.ensures c.if-not-may_be_part.true _ (strengthen-needs φ _ _)),
    )

pub returns-then-c-b-clause-none : goal.returns-then-c-b-clause-none
returns-then-c-b-clause-none c =
    λ φ h w g. (
      sym (subsume-no-b h _ _ c.requires.a_lt_clauses c.if-c-b.true),
      sym (strong-absent h _ _ c.requires.a_lt_clauses c.if-c-b.true),
    )

pub returns-then-a-b-clause-none : goal.returns-then-a-b-clause-none
returns-then-a-b-clause-none c =
    λ φ h w g. (
      sym (subsume-same h _ _ c.requires.a_lt_clauses c.if-c-b.false c.if-a-b.true),
      sym (strong-itself h _ _ c.requires.a_lt_clauses w c.if-a-b.true),
    )

pub returns-then-y-x-clause-none : goal.returns-then-y-x-clause-none
returns-then-y-x-clause-none c =
    λ φ h w g. let f = c.clause_at-y.ensures φ h in (
      sym (subsume-is h _ _ c.requires.a_lt_clauses c.if-c-b.false c.if-a-b.false _ _ g.is f _
          (sym (part-longer _ _ (clause-rises h w _ c.requires.a_lt_clauses _ g.is) (clause-rises h w _ c.if-c-b.false _ f) c.if-y-x.true))),
      sym (strong-short h _ _ c.requires.a_lt_clauses c.if-c-b.false _ _ g.is f w c.if-y-x.true),
    )
