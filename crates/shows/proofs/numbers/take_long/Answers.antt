-- Eight bytes.
-- Assumes nothing.
use Rattle.shows.proofs.NumberLaws.{long_of}
use Rattle.shows.proofs.numbers.take_long.Goals as goal

pub returns : goal.returns
returns c = long_of c.args.b.now c.args.at _ c.from_le_bytes.ensures
