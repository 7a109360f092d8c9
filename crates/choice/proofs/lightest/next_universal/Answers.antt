-- The same, or looked for from the next entry on.
-- Assumes nothing.
use Rattle.choice.proofs.UniversalLaws.{universal-stays}
use Rattle.choice.proofs.lightest.next_universal.Goals as goal

pub returns-then-i-n : goal.returns-then-i-n
returns-then-i-n c = universal-stays c.args.prefix.now c.args.i c.args.n c.requires.0 c.requires.2 c.if-i-n.true
