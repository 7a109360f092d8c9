-- By the fourth number.
-- Assumes nothing.
use Rattle.exports.proofs.CallLaws.{no-replay, replayed}
use Rattle.exports.proofs.rimhlada_replay.Goals as goal

pub returns-in_default : goal.returns-in_default
returns-in_default c = no-replay _ _ _ c.in_default.ensures _ c.side_number.ensures _

pub returns : goal.returns
returns c = replayed _ _ _ c.in-Some.ensures.0 _ c.in-Some.ensures.1 _ _ _ _ _ _ c.replay-x.ensures c.number.ensures c.give.ensures
