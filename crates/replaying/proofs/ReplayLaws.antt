-- The ways out of a replay: refused, or as the replay between the tables says.
-- Assumes nothing.
use mathlib.Core.Path.{◌≡◌, refl, ◌∙◌}
use mathlib.Core.List.{List}
use Prim.Native.Nat.{ℕ}
use Rattle.judging.specs.declared.Unfit.{Unfit}
use Rattle.std.specs.Prelude.{Ok, Err}
use Rattle.rules.specs.Run as rules
use Rattle.rules.specs.Run.{all_applied, refused_by, replay_bytes}
use Rattle.judging.specs.Check.{Asked, asked}
use Rattle.table.specs.declared.Counts.{Counts}
use Rattle.course.specs.Course.{stop_as, ReplayedAs}
use Rattle.course.specs.declared.Replaying.{Replaying}
use Rattle.standing.specs.Standing.{formula_in, first_for, second_for, first_left, second_left}
use Rattle.replaying.proofs.StepLaws.{refused-back}
use Rattle.replaying.specs.Stepping.{unfit_answer}
use Rattle.replaying.specs.Replaying.{stop_answer, replayed_for, replay_in, side_replayed, Replays, stop_back, replayed_back}
use Rattle.replaying.specs.declared.replays.Replayed.{Replayed}

stop-back : (s : rules.Stop) → stop_back (stop_as s) ≡ stop_answer s
unfolding stop_back stop_as stop_answer
stop-back all_applied = refl
stop-back (refused_by x) = refused-back x

module _ (a b : List ℕ) (c : Counts) (log : List ℕ) (s : Asked) (q : s ≡ asked a b c) where
  pub replays-unfit : (u : Unfit) → s ≡ Err u → Replays a b c log (record { answer = unfit_answer u; counts = c; applied = 0 }) a b
  unfolding replayed_for first_left second_left
  replays-unfit u k = record { given = rw (← q, k); first = rw (← q, k); second = rw (← q, k) }

  pub replays-given : s ≡ Ok tt → (r : Replaying) (a' b' : List ℕ) → ReplayedAs (replay_bytes (formula_in a b c) log) c.second r a' b' → (x : Replayed) → x ≡ replayed_back r → Replays a b c log x a' b'
  unfolding replayed_for first_left second_left first_for second_for replay_in side_replayed replayed_back
  replays-given k r a' b' m x g =
      record {
        given = rw (← q, k) (g ∙ rw (m.stop, m.applied, m.here.counts, stop-back (replay_in a b c log).stop));
        first = rw (← q, k) m.here.stands.first;
        second = rw (← q, k) m.here.stands.second;
      }
