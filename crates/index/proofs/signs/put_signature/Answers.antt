-- A store past the end would change nothing.
-- Assumes nothing.
use mathlib.Core.Path.{sym}
use lib.Seq.{set_out}
use Rattle.index.proofs.signs.put_signature.Goals as goal

pub returns-else-at-index : goal.returns-else-at-index
returns-else-at-index c = sym (set_out _ _ _ c.if-at-index.false)
