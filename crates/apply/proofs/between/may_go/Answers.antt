-- It is known, or looked for.
-- Assumes nothing.
use mathlib.Core.Path.{sym, ◌∙◌}
use Rattle.permits.specs.Calls.{call_read}
use Rattle.apply.proofs.between.may_go.Goals as goal

pub returns-then-known : goal.returns-then-known
returns-then-known c = λ φ g. c.if-known.true ∙ sym (c.requires.1 φ g c.if-known.true)

pub returns-else-known : goal.returns-else-known
unfolding call_read
returns-else-known c = c.is_permitted.ensures
