use Rattle.lines.proofs.Parts.{sized_same, sized-other}
use Rattle.lines.proofs.prefixes.entry_size.Goals as goal

pub returns-then-q-e : goal.returns-then-q-e
returns-then-q-e c = sized_same _ _ _ c.number_size-n.ensures c.if-q-e.true

pub returns-else-q-e : goal.returns-else-q-e
returns-else-q-e c = sized-other _ _ _ c.number_size-n.ensures c.if-q-e.false
