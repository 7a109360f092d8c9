-- By the two numbers, then by the sizes.
-- Assumes nothing.
use mathlib.Core.Path.{sym}
use Rattle.permits.proofs.ClauseLaws.{subsume-no-a, subsume-same, subsume-is}
use Rattle.walks.proofs.MergeLaws.{part-longer}
use Rattle.search.proofs.StudyLaws.{clause-rises}
use Rattle.search.proofs.StrengthenLaws.{strong-no-a, strong-itself, strong-short}
use Rattle.search.proofs.sizes.narrower.Goals as goal

pub returns-then-c-a-clause-none : goal.returns-then-c-a-clause-none
returns-then-c-a-clause-none c = λ φ h w at_b. (sym (subsume-no-a h _ _ c.if-c-a.true), sym (strong-no-a h _ _ c.if-c-a.true))

pub returns-then-a-b-clause-none : goal.returns-then-a-b-clause-none
returns-then-a-b-clause-none c =
    λ φ h w at_b. (
      sym (subsume-same h _ _ c.if-c-a.false c.requires.b_lt_clauses c.if-a-b.true),
      sym (strong-itself h _ _ c.if-c-a.false w c.if-a-b.true),
    )

pub returns-then-y-x-clause-none : goal.returns-then-y-x-clause-none
returns-then-y-x-clause-none c =
    λ φ h w at_b. let at_a = c.clause_at-x.ensures φ h in (
      sym (subsume-is h _ _ c.if-c-a.false c.requires.b_lt_clauses c.if-a-b.false _ _ at_a at_b _
          (sym (part-longer _ _ (clause-rises h w _ c.if-c-a.false _ at_a) (clause-rises h w _ c.requires.b_lt_clauses _ at_b) c.if-y-x.true))),
      sym (strong-short h _ _ c.if-c-a.false c.requires.b_lt_clauses _ _ at_a at_b w c.if-y-x.true),
    )
