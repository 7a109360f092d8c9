-- By what stands at the place, if anything does.
-- Assumes nothing.
use mathlib.Core.Path.{◌∙◌}
use lib.ListN.{length}
use borrow.Author.Tests.{le-ltb}
use Rattle.table.proofs.RisingLaws.{stands_here, stands-past}
use Rattle.table.proofs.insert.stands_at.Goals as goal

pub returns-then-p-s : goal.returns-then-p-s
returns-then-p-s c = stands_here _ _ _ c.requires.s_value c.requires.p_value c.if-p-s.true

pub returns-else-p-s : goal.returns-else-p-s
returns-else-p-s c = le-ltb c.args.p (length c.args.s.now) c.if-p-s.false ∙ stands-past _ _ _ c.requires.s_value c.requires.p_value c.if-p-s.false
