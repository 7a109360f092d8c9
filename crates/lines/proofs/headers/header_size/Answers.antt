use Rattle.lines.proofs.Parts.{sized-header}
use Rattle.lines.proofs.headers.header_size.Goals as goal

pub returns : goal.returns
returns c = sized-header _ _ _ _ c.number_size.ensures c.number_size-2.ensures
