-- Nothing found for clause b as the first, and no other that is a part of it.
-- Assumes nothing.
use mathlib.Core.Path.{refl, sym, ◌∙◌}
use Rattle.meaning.proofs.Basics.{clash, not-true}
use Rattle.search.proofs.SearchedLaws.{subsume-alone}
use Rattle.search.proofs.subsumption.is_apart.Goals as goal

pub returns-then-is_some : goal.returns-then-is_some
returns-then-is_some c = λ φ h x n e. clash e refl

pub returns : goal.returns
returns c =
    λ φ h x n e. subsume-alone h _ _ (c.subsumed_by.ensures φ h x n) (sym c.is_some.ensures ∙ c.if-is_some.false)
    (c.has_part.ensures φ h x n (c.clause_at.ensures φ h) (not-true _ e))
