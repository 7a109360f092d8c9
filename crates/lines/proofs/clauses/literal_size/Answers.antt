use Rattle.lines.proofs.Parts.{sized-minus, sized-plain}
use Rattle.lines.proofs.clauses.literal_size.Goals as goal

pub returns-then-l-eq1 : goal.returns-then-l-eq1
returns-then-l-eq1 c = sized-minus _ _ c.number_size-n.ensures c.if-l-eq1.true

pub returns-else-l-eq1 : goal.returns-else-l-eq1
returns-else-l-eq1 c = sized-plain _ _ c.number_size-n.ensures c.if-l-eq1.false
