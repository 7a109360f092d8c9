-- By whether the variable is in the prefix.
-- Assumes nothing.
use Rattle.choice.proofs.HandLaws.{prefix-part}
use Rattle.explaining.proofs.ExplainLaws.{there, answer-there, answer-absent}
use Rattle.explaining.proofs.explains.reason_at.Goals as goal

pub slice_bounds-has_variable-end : goal.slice_bounds-has_variable-end
slice_bounds-has_variable-end c = prefix-part c.requires.0

pub returns-then-has_variable-clause-value : goal.returns-then-has_variable-clause-value
returns-then-has_variable-clause-value c = λ φ h w. answer-there h _ _ c.has_variable.ensures _ c.if-has_variable.true _ (c.explain.ensures.value φ h w (there h _ _ c.has_variable.ensures c.if-has_variable.true)) _ c.into.ensures

pub returns-then-has_variable-clause-spare_after : goal.returns-then-has_variable-clause-spare_after
returns-then-has_variable-clause-spare_after c = c.explain.ensures.spare_after

pub returns-clause-value : goal.returns-clause-value
returns-clause-value c = λ φ h w. answer-absent h _ _ c.has_variable.ensures _ c.if-has_variable.false

pub returns-clause-spare_after : goal.returns-clause-spare_after
returns-clause-spare_after c = c.zero.ensures
