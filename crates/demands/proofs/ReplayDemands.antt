-- `replay`, from its contract alone: it meets its demands, and two outcomes that conform coincide.
-- Assumes nothing.
use mathlib.Core.Path.{◌≡◌, refl, sym, ap, ◌∙◌}
use mathlib.Core.Bool.{Bool}
use mathlib.Core.List.{List}
use Prim.Native.Nat.{ℕ}
use native.Mathlib.Omega.{arith}
use lib.ListN.{length}
use Rattle.judging.specs.declared.Unfit.TheVariants as said
use Rattle.std.specs.Prelude.{Ok, Err}
use Rattle.rules.specs.Run as rules
use Rattle.meaning.specs.Formula.{Formula}
use Rattle.meaning.specs.Game.{is_true}
use Rattle.rules.specs.Entry.{LogRead, bad_length, entries, read_log}
use Rattle.rules.specs.Step.{entry_bad, refusal_number}
use Rattle.rules.specs.Run.{Stop, all_applied, refused_by, replayed_none, replay, replay_read, replay_bytes}
use Rattle.table.specs.Table.{counts_of}
use Rattle.judging.specs.Check.{Asked, asked, asked_number}
use Rattle.table.specs.declared.Counts.{Counts}
use Rattle.standing.specs.Standing.{formula_in, first_for, second_for, first_left, second_left}
use Rattle.replaying.specs.Stepping.{step_number}
use Rattle.replaying.specs.Replaying.{stop_answer, replayed_for, replay_in, side_replayed, Replays}
use Rattle.demands.specs.Demands.{Left, LeftAs, FirstRefused, ReplaySays, ReplayDemands}
use Rattle.replaying.specs.declared.replays.Replayed.{Replayed}
use Rattle.rules.proofs.Kept.{Kept, kept-none, kept-true}
use Rattle.rules.proofs.Replays.{replay-beginning, replay-kept}
use Rattle.standing.proofs.LentLaws.{lends, stands-formula, stands-given}
use Rattle.demands.proofs.StepDemands.{refusal-number, refusal-large}
use Rattle.demands.proofs.ReplayStops.{stops_at, all-applied}

-- the formula that a replay of bytes leaves
bytes-kept : (φ : Formula) (log : List ℕ) → Kept φ φ → Kept φ (replay_bytes φ log).formula
unfolding replay_bytes
bytes-kept φ log k = go (read_log log)
  where
    go : (y : LogRead) → Kept φ (replay_read φ y).formula
    go bad_length = unfold replay_read replayed_none in k
    go (entries es) = unfold replay_read in replay-kept φ k.well k.room es

module _ (a b : List ℕ) (c : Counts) (log : List ℕ) (r : Replayed) (a' b' : List ℕ) (w : Replays a b c log r a' b') where
  pub replays-once : (q : Replayed) (x y : List ℕ) → Replays a b c log q x y → (r ≡ q) × (a' ≡ x) × (b' ≡ y)
  replays-once q x y v = (w.given ∙ sym v.given, w.first ∙ sym v.first, w.second ∙ sym v.second)

  -- It replays -------------------------------------------------------------------------------------------------
  module _ (g : asked a b c ≡ Ok tt) where
    abbrev φ : Formula
    φ = formula_in a b c

    abbrev x : rules.Replayed
    x = replay_in a b c log

    abbrev side : Bool
    side = side_replayed c x

    replayed-is : r ≡ record { answer = stop_answer x.stop; counts = counts_of x.formula side; applied = x.applied }
    unfolding replayed_for side_replayed
    replayed-is = w.given ∙ rw g

    counts-are : r.counts ≡ counts_of x.formula side
    counts-are = ap (λ (y : Replayed). y.counts) replayed-is

    pub applied-is : r.applied ≡ x.applied
    applied-is = ap (λ (y : Replayed). y.applied) replayed-is

    pub number_is : step_number r.answer ≡ step_number (stop_answer x.stop)
    number_is = ap (λ (y : Replayed). step_number y.answer) replayed-is

    first-is : a' ≡ first_for side x.formula
    unfolding first_left
    first-is = w.first ∙ rw g

    second_is : b' ≡ second_for side x.formula
    unfolding second_left
    second_is = w.second ∙ rw g

    kept : Kept φ x.formula
    unfolding replay_in
    kept = let k = lends a b c (asked a b c) refl g in bytes-kept φ log (kept-none φ k.well k.holds.fitting)

    pub final-is : formula_in a' b' r.counts ≡ x.formula
    final-is = rw (counts-are, first-is, second_is) (stands-formula x.formula side kept.room)

    left_is : Left φ a' b' r.counts
    left_is =
        record {
          taken = rw (counts-are, first-is, second_is) (stands-given x.formula side kept.room kept.well);
          same_truth = ap is_true final-is ∙ kept-true φ x.formula kept;
        }

    -- the log is of whole entries
    module _ (es : List ℕ) (e : read_log log ≡ entries es) where
      replay-is : x ≡ replay φ es
      unfolding replay_in replay_bytes replay_read
      replay-is = rw e

      stop-of : step_number r.answer ≡ step_number (stop_answer (replay φ es).stop)
      stop-of = number_is ∙ ap (λ (y : rules.Replayed). step_number (stop_answer y.stop)) replay-is

      count_of : r.applied ≡ (replay φ es).applied
      count_of = applied-is ∙ ap (λ (y : rules.Replayed). y.applied) replay-is

      final-of : formula_in a' b' r.counts ≡ (replay φ es).formula
      final-of = final-is ∙ ap (λ (y : rules.Replayed). y.formula) replay-is

      -- by the stop
      says_none : (s : Stop) → (replay φ es).stop ≡ s → step_number r.answer ≡ step_number (stop_answer s) → step_number r.answer ≡ 0
          → r.applied ≡ length es
      says_none all_applied k n z = count_of ∙ all-applied φ es k
      says_none (refused_by y) k n z = unfold stop_answer in absurd (omega (arith, n, refusal-number y, refusal-large y))

      says_first : (s : Stop) → (replay φ es).stop ≡ s → step_number r.answer ≡ step_number (stop_answer s) → (step_number r.answer ≡ 0 → ⊥)
          → FirstRefused es r.applied (formula_in a' b' r.counts) (step_number r.answer)
      says_first all_applied k n z = unfold stop_answer step_number in absurd (z n)
      says_first (refused_by y) k n z =
          let q = stops_at φ es y k in
          rw (count_of, final-of) (record {
            entry = q.entry;
            rest = q.rest;
            next = q.next;
            refusal = y;
            refuses = q.refuses;
            number = n ∙ (unfold stop_answer in refusal-number y);
          })

      says : ReplaySays φ es (formula_in a' b' r.counts) r.applied (step_number r.answer)
      says =
          record {
            applied = rw (count_of, final-of) (replay-beginning φ es);
            done = says_none (replay φ es).stop refl stop-of;
            refused = says_first (replay φ es).stop refl stop-of;
          }

    -- its length is no multiple of 4
    module _ (e : read_log log ≡ bad_length) where
      bad-is : x ≡ replayed_none (refused_by entry_bad) φ
      unfolding replay_in replay_bytes replay_read
      bad-is = rw e

      says-bad : (step_number r.answer ≡ 12) × (r.applied ≡ 0) × (formula_in a' b' r.counts ≡ φ)
      unfolding replayed_none stop_answer refusal_number
      says-bad = (
        number_is ∙ ap (λ (y : rules.Replayed). step_number (stop_answer y.stop)) bad-is ∙ refusal-number entry_bad,
        applied-is ∙ ap (λ (y : rules.Replayed). y.applied) bad-is,
        final-is ∙ ap (λ (y : rules.Replayed). y.formula) bad-is,
      )

  -- It is refused ----------------------------------------------------------------------------------------------
  refused : (s : Asked) → asked a b c ≡ s → (s ≡ Ok tt → ⊥)
      → (step_number r.answer ≡ asked_number s) × LeftAs a b c a' b' r.counts × (r.applied ≡ 0)
  unfolding replayed_for first_left second_left step_number asked_number
  refused (Ok u) g n = absurd (n refl)
  refused (Err said.WrongLength) g n =
      let z = w.given ∙ ap (λ (s : Asked). replayed_for s c (replay_in a b c log)) g in (
        ap (λ (q : Replayed). step_number q.answer) z,
        record { counts = ap (λ (q : Replayed). q.counts) z; first = w.first ∙ rw g; second = w.second ∙ rw g },
        ap (λ (q : Replayed). q.applied) z,
      )
  refused (Err said.Malformed) g n =
      let z = w.given ∙ ap (λ (s : Asked). replayed_for s c (replay_in a b c log)) g in (
        ap (λ (q : Replayed). step_number q.answer) z,
        record { counts = ap (λ (q : Replayed). q.counts) z; first = w.first ∙ rw g; second = w.second ∙ rw g },
        ap (λ (q : Replayed). q.applied) z,
      )

  pub replay-demands : ReplayDemands a b c log r a' b'
  replay-demands = record { left = left_is; replays = says; bad-length = says-bad; refuses = refused (asked a b c) refl }
