-- By whether it is of v; there is room.
-- Assumes nothing.
use mathlib.Core.Path.{refl}
use Rattle.rebuilds.proofs.PrefixLaws.{keep-skip, keep-or}
use Rattle.rebuilds.proofs.prefixes.keep_entry.Goals as goal

pub returns-then-q-v : goal.returns-then-q-v
returns-then-q-v c = λ ψ h f. (keep-skip h _ _ c.if-q-v.true, refl)

pub returns : goal.returns
returns c = λ ψ h f. keep-or h _ _ c.if-q-v.false _ _ (c.push_variable.ensures ψ h) f c.unwrap_or.ensures
