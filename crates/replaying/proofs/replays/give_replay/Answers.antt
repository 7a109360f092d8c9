-- The answer is that of the stop; the rest is handed on.
-- Assumes nothing.
use mathlib.Core.Path.{◌≡◌, ◌∙◌}
use Rattle.replaying.specs.Replaying.{stop_back, replayed_back}
use Rattle.replaying.proofs.replays.give_replay.Goals.{in-None, in-Some}
use Rattle.replaying.proofs.replays.give_replay.Goals as goal

pub returns : goal.returns
unfolding replayed_back stop_back
returns c =
    let e : c.match-r.result ≡ stop_back c.args.r.stop =
    elim c.match-r.branch [
      | in-None w ↦ rw w.in-None.is w.result-is
      | in-Some w ↦ rw w.in-Some.is (w.result-is ∙ w.from.ensures)
    ] in
    rw e
