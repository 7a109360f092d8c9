-- By whether there are enough, then by the ranks.
-- Assumes nothing.
use Rattle.expanding.proofs.CopyLaws.{copy-enough, copy-there, copy-new}
use Rattle.expanding.proofs.copies.add_copy.Goals.{then-enough-e-via-then-enough-e, then-enough-e-via-else-enough-e+then-in_prefix}
use Rattle.expanding.proofs.copies.add_copy.Goals as goal

pub returns-then-enough-e : goal.returns-then-enough-e
returns-then-enough-e c =
    elim c.then-enough-e.branch [
      | then-enough-e-via-then-enough-e w ↦ λ p ψ r h. copy-enough p h _ _ w.if-enough-e.true
      | then-enough-e-via-else-enough-e+then-in_prefix w ↦ λ p ψ r h. copy-there p h _ _ _ (w.in_prefix.ensures p r.ranked r.good) w.if-in_prefix.true
    ]

pub returns : goal.returns
returns c = λ p ψ r h. copy-new p h _ _ _ (c.in_prefix.ensures p r.ranked r.good) c.if-in_prefix.false c.if-enough-e.false _ _ (c.push_variable.ensures ψ h)
