-- By what each call gives.
-- Assumes nothing.
use Rattle.reader.proofs.turns.judge.Goals as goal

pub returns : goal.returns
returns c = λ p h e. let b = c.seen-known.ensures p h e in cc
