-- An empty clause, no clause, or the first kind with a candidate.
-- Assumes nothing.
use mathlib.Core.Path.{sym, ◌∙◌}
use Rattle.meaning.specs.Game.{empty_clause}
use Rattle.table.proofs.HoldLaws.{count-clauses}
use Rattle.choice.specs.Chosen.{end_as, next_as}
use Rattle.choice.proofs.KindLaws.{next-false, next-true, next-chosen}
use Rattle.choice.proofs.kinds.decide.Goals as goal

pub returns-then-is_present : goal.returns-then-is_present
unfolding empty_clause next_as end_as
returns-then-is_present c = λ φ h w q. next-false _ φ (sym (c.is_present.ensures φ h) ∙ c.if-is_present.true)

pub returns-then-c-eq0 : goal.returns-then-c-eq0
unfolding empty_clause next_as end_as
returns-then-c-eq0 c = λ φ h w q. next-true _ φ (sym (c.is_present.ensures φ h) ∙ c.if-is_present.false) (sym (count-clauses h) ∙ c.if-c-eq0.true)

pub choose_unit-requires : goal.choose_unit-requires
unfolding empty_clause
choose_unit-requires c = (record { formula = c.requires.0.formula; holds = c.requires.0.holds; well = c.requires.0.well; no-empty = sym (c.is_present.ensures c.requires.0.formula c.requires.0.holds) ∙ c.if-is_present.false; searched = c.requires.0.searched }, c.requires.1, c.requires.2)

pub returns : goal.returns
unfolding empty_clause
returns c =
    λ φ h w q.
    let n = sym (c.is_present.ensures φ h) ∙ c.if-is_present.false in rw (← next-chosen _ φ n (λ z. c.if-c-eq0.false (count-clauses h ∙ z))) (c.choose_unit.ensures φ h w n q)
