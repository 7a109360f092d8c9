-- By the clauses with the one literal, then those with the other.
-- Assumes nothing.
use mathlib.Core.Path.{◌∙◌}
use Rattle.meaning.proofs.Basics.{eqb-eq}
use Rattle.search.proofs.LoneLaws.{lone-plain, lone-negated}
use Rattle.search.proofs.pures.is_lone.Goals as goal

pub returns-then-times_in-eq0 : goal.returns-then-times_in-eq0
returns-then-times_in-eq0 c = λ φ h. eqb-eq c.if-times_in-eq0.true ∙ lone-plain φ.clauses _ _ (c.times_in.ensures φ h) c.if-times_in-eq0.true

pub returns-else-times_in-eq0 : goal.returns-else-times_in-eq0
returns-else-times_in-eq0 c = λ φ h. lone-negated φ.clauses _ _ (c.times_in.ensures φ h) c.if-times_in-eq0.false _ (c.times_in-else-times_in-eq0.ensures φ h)
