-- Nothing found for clause b as the first, and none that strengthens it.
-- Assumes nothing.
use mathlib.Core.Path.{refl, sym, ◌∙◌}
use Rattle.meaning.proofs.Basics.{clash, not-true}
use Rattle.table.proofs.HoldLaws.{held}
use Rattle.search.proofs.SearchedLaws.{strengthen-alone}
use Rattle.search.proofs.strengthening.is_apart.Goals as goal

pub returns-then-is_some : goal.returns-then-is_some
returns-then-is_some c = λ φ s e. clash e refl

pub clause_at-requires-clause-held : goal.clause_at-requires-clause-held
clause_at-requires-clause-held c = held c.args.at.now.studied.holds

pub clause_at-requires-clause-i_lt_clauses : goal.clause_at-requires-clause-i_lt_clauses
clause_at-requires-clause-i_lt_clauses c = c.requires.b_lt_clauses

pub returns : goal.returns
returns c =
    λ φ s e. strengthen-alone s.holds _ _ (c.strengthened_by.ensures φ s) (sym c.is_some.ensures ∙ c.if-is_some.false)
    (c.has_stronger.ensures φ s (c.clause_at.ensures φ s.holds) (not-true _ e))
