-- Four bytes.
-- Assumes nothing.
use Rattle.shows.proofs.NumberLaws.{word_of}
use Rattle.shows.proofs.numbers.take_word.Goals as goal

pub returns : goal.returns
returns c = word_of c.args.b.now c.args.at _ c.from_le_bytes.ensures
