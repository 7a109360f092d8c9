-- By what is said of the tables.
-- Assumes nothing.
use Rattle.standing.proofs.LentLaws.{lends, lent}
use Rattle.replaying.proofs.ReplayLaws.{replays-unfit, replays-given}
use Rattle.replaying.proofs.replays.replay.Goals as goal

pub replay-r-requires : goal.replay-r-requires
replay-r-requires c = lent _ _ _ _ c.literals_answer.ensures c.in-Ok.is

pub returns-in-Ok : goal.returns-in-Ok
returns-in-Ok c = replays-given _ _ _ _ _ c.literals_answer.ensures c.in-Ok.is _ _ _ (c.replay-r.ensures _ (lends _ _ _ _ c.literals_answer.ensures c.in-Ok.is)) _ c.give_replay.ensures

pub returns-in-Err : goal.returns-in-Err
returns-in-Err c = rw c.into.ensures (replays-unfit _ _ _ _ _ c.literals_answer.ensures _ c.in-Err.is)
