-- Each exported call, from what the face's call ensures.
-- Assumes nothing.
use Prim.Native.Nat.{ℕ, ◌≤◌, ◌<◌}
use mathlib.Core.Path.{◌≡◌, refl}
use mathlib.Core.List.{List, [], ◌∷◌}
use lib.ListN.{get_or, set}
use Rattle.table.specs.declared.Counts.{Counts}
use Rattle.writer.specs.Written.{Wrote, write_number}
use Rattle.writer.specs.declared.Writing.{Writing}
use Rattle.replaying.specs.Stepping.{Steps, step_number}
use Rattle.running.specs.Running.{Runs, run_number}
use Rattle.replaying.specs.Replaying.{Replays}
use Rattle.explaining.specs.Explaining.{Explains, reason_number}
use Rattle.replaying.specs.declared.stepping.Stepped.{Stepped}
use Rattle.running.specs.declared.runs.Ran.{Ran}
use Rattle.replaying.specs.declared.replays.Replayed.{Replayed}
use Rattle.explaining.specs.declared.explains.Reasoned.{Reasoned}
use Rattle.exports.specs.Records.{side_known, counts_in, record_of, side_number, as_lent}
use Rattle.explaining.specs.Values.{reason_kind, reason_values, no_values, triple}
use Rattle.exports.specs.Calls.{Said, Refused, RefusedWith, WriteCall, StepCall, RunCall, ReplayCall, ReasonCall}
use Rattle.exports.proofs.RecordLaws.{side-known, side-unknown}

known : (l : List ℕ) (K U : Type 0) → get_or l 3 0 ≤ 1 → K → Said (side_known l) K U
known l K U h k = rw (side-known l h) k

unknown : (l : List ℕ) (K U : Type 0) → 1 < get_or l 3 0 → U → Said (side_known l) K U
unknown l K U h u = rw (side-unknown l h) u

module _ (a b l : List ℕ) where
  -- the fourth number is over 1: nothing is written
  module _ (h : 1 < get_or l 3 0) (n : ℕ) (e : n ≡ side_number a b) where
    refused : Refused a b l n a b (set l 4 0)
    unfolding as_lent
    refused = record { number = e; first = refl; second = refl; left = refl }

    refused-with : (x : List ℕ) → RefusedWith a b l x n a b (set l 4 0) x
    refused-with x = record { refused = refused; bytes = refl }

    pub no_write : (out : List ℕ) → WriteCall a b l out n (set l 4 0) out
    no_write out = unknown l _ _ h (refused-with out)

    pub no_step : (entry : ℕ) → StepCall a b l entry n a b (set l 4 0)
    no_step entry = unknown l _ _ h refused

    pub no_run : (E limit : ℕ) (log : List ℕ) → RunCall a b l E limit log n a b (set l 4 0) log
    no_run E limit log = unknown l _ _ h (refused-with log)

    pub no-replay : (log : List ℕ) → ReplayCall a b l log n a b (set l 4 0)
    no-replay log = unknown l _ _ h refused

    pub no-reason : (v E : ℕ) → ReasonCall a b l v E n a b (set l 4 0) (0 ∷ (0 ∷ (0 ∷ [])))
    unfolding no_values triple
    no-reason v E = unknown l _ _ h (record { refused = refused; values = refl })

  -- it is not: c is the record
  module _ (h : get_or l 3 0 ≤ 1) (c : Counts) (r : c ≡ counts_in l) (n : ℕ) (l' : List ℕ) where
    pub wrote : (out out' : List ℕ) (x : Writing) → Wrote a b c out x out' → n ≡ write_number x.answer → l' ≡ record_of c x.bytes → WriteCall a b l out n l' out'
    wrote out out' x w e k = known l _ _ h (record { given = x; face = rw r at w; number = e; left = rw r at k })

    module _ (a' b' : List ℕ) where
      pub stepped : (entry : ℕ) (x : Stepped) → Steps a b c entry x a' b' → n ≡ step_number x.answer → l' ≡ record_of x.counts 0 → StepCall a b l entry n a' b' l'
      stepped entry x w e k = known l _ _ h (record { given = x; face = rw r at w; number = e; left = k })

      pub ran : (E limit : ℕ) (log log' : List ℕ) (x : Ran) → Runs a b c E limit log x a' b' log' → n ≡ run_number x.answer → l' ≡ record_of x.counts x.steps → RunCall a b l E limit log n a' b' l' log'
      ran E limit log log' x w e k = known l _ _ h (record { given = x; face = rw r at w; number = e; left = k })

      pub replayed : (log : List ℕ) (x : Replayed) → Replays a b c log x a' b' → n ≡ step_number x.answer → l' ≡ record_of x.counts x.applied → ReplayCall a b l log n a' b' l'
      replayed log x w e k = known l _ _ h (record { given = x; face = rw r at w; number = e; left = k })

      pub reasoned : (v E : ℕ) (p' : List ℕ) (x : Reasoned) → Explains a b c v E x a' b' → (k : ℕ) → k ≡ reason_kind x.answer → n ≡ reason_number x.answer → l' ≡ record_of x.counts k → p' ≡ reason_values x.answer → ReasonCall a b l v E n a' b' l' p'
      reasoned v E p' x w k q e g p = known l _ _ h (record { given = x; face = rw r at w; number = e; left = rw q at g; values = p })
