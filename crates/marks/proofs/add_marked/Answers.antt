-- By whether an equal clause is there.
-- Assumes nothing.
use mathlib.Core.Path.{sym, ◌∙◌}
use Rattle.marks.proofs.WentLaws.{went-there, went-new}
use Rattle.marks.proofs.add_marked.Goals as goal

pub returns-then-is_marked : goal.returns-then-is_marked
returns-then-is_marked c = λ φ h k. went-there h k _ (sym (c.is_marked.ensures φ h k) ∙ c.if-is_marked.true)

pub returns : goal.returns
returns c = λ φ h k. went-new h k _ (sym (c.is_marked.ensures φ h k) ∙ c.if-is_marked.false) (c.push_marked.ensures φ h k)
