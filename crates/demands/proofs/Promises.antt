-- What Rimhlada promises, over the definitions of document 01: its demands 2 and 3, each in plain words and as a theorem. The
-- proofs are elsewhere; here each promise is put together and named. Assumes nothing.
use mathlib.Core.Path.{◌≡◌, sym, ◌∙◌}
use mathlib.Core.Bool.{Bool, true, false, false≢true}
use mathlib.Core.List.{List}
use Prim.Native.Nat.{ℕ, ◌+◌, ◌*◌, ◌/◌, ◌≤◌, min}
use lib.ListN.{length, take}
use Rattle.meaning.specs.Formula.{Formula}
use Rattle.meaning.specs.Game.{is_true}
use Rattle.meaning.specs.Tidy.{tidied}
use Rattle.meaning.specs.WellFormed.{well_formed, fits, weight, universals, max_text}
use Rattle.rules.specs.Entry.{Kind, entry, read_entry}
use Rattle.rules.specs.Step.{stepped, step_of}
use Rattle.rules.specs.Choice.{allowed, blocked, choose, take_step, stuck}
use Rattle.rules.specs.Run.{run, ended, stopped, true_end, false_end, step_bound, all_applied, replay}
use Rattle.qdimacs.specs.Read.{good, as_written, read}
use Rattle.qdimacs.specs.Write.{write}
use Rattle.meaning.proofs.Basics.{false_of}
use Rattle.rules.proofs.Answers.{Says, step-says}
use Rattle.rules.proofs.Kept.{Kept, kept-true, step_kept}
use Rattle.rules.proofs.Chosen.{takes-allowed, stuck-none, stuck-blocked, stuck-room}
use Rattle.rules.proofs.First.{First, choose-first}
use Rattle.rules.proofs.Replays.{replay-beginning, replay-kept}
use Rattle.rules.proofs.Joined.{joined, run-continued}
use Rattle.rules.proofs.RunRight.{RunRight, run-right}
use Rattle.qdimacs.proofs.Sound.{of-read, read-well-formed, read_fits, read-truth}
use Rattle.qdimacs.proofs.Sizes.{write-short}
use Rattle.qdimacs.proofs.Trip.{round_trip}

-- Demand 2: "Reading and writing follow QDIMACS .. a written formula reads back the same. Every permitted step keeps the
-- formula's truth under the game meaning of its prefix. A verdict is the truth of the formula that was read." ---

-- What is read is well formed, keeps to the limits, and has the truth of the formula as it is written in the text, before it is
-- tidied.
pub record ReadRight (text : List ℕ) (φ : Formula) : Type 0 where
  pub written : Formula
  pub is-written : as_written text ≡ good written
  pub is-tidied : φ ≡ tidied written
  pub same_truth : is_true φ ≡ is_true written
  pub well : well_formed φ ≡ true
  pub room : fits φ ≡ true

pub reading : (text : List ℕ) (φ : Formula) → read text ≡ good φ → ReadRight text φ
reading text φ h =
    let r : (w : Formula) × (as_written text ≡ good w) × (φ ≡ tidied w) = of-read text φ h in
    record {
      written = r.0;
      is-written = r.1;
      is-tidied = r.2;
      same_truth = read-truth text r.0 φ r.1 h;
      well = read-well-formed text φ h;
      room = read_fits text φ h;
    }

-- What is written reads back the same, and is never too long to be read.
pub writing : (φ : Formula) → well_formed φ ≡ true → fits φ ≡ true → (read (write φ) ≡ good φ) × (length (write φ) ≤ max_text)
writing φ w f = (round_trip φ w f, write-short φ w f)

-- A step that is taken gives a well formed formula within the limits, of the same truth.
pub record StepRight (φ ψ : Formula) : Type 0 where
  pub well : well_formed ψ ≡ true
  pub room : fits ψ ≡ true
  pub same_truth : is_true ψ ≡ is_true φ

pub stepping : (φ : Formula) → well_formed φ ≡ true → (e : ℕ) (ψ : Formula) → step_of φ e ≡ stepped ψ → StepRight φ ψ
stepping φ w e ψ h = let k : Kept φ ψ = step_kept φ w e ψ h in record { well = k.well; room = k.room; same_truth = kept-true φ ψ k }

-- What a step answers is one of four things, and each says exactly when it is given: BAD ENTRY, NOT PERMITTED, NO ROOM, or the
-- result of a permitted step that fits.
pub answering : (φ : Formula) (e : ℕ) → Says φ (read_entry e) (step_of φ e)
answering φ e = step-says φ e

-- TRUE and FALSE are the truth of the formula in the text.
pub verdict : (text : List ℕ) (written φ : Formula) → as_written text ≡ good written → read text ≡ good φ → (E limit bytes : ℕ)
    → ((run E limit bytes φ).outcome ≡ ended true_end → is_true written ≡ true) × ((run E limit bytes φ).outcome ≡ ended false_end → is_true written ≡ false)
unfolding run
verdict text written φ a h E limit bytes =
    let r = run-right E (min limit (bytes / 4)) φ (read-well-formed text φ h) (read_fits text φ h) in
    (λ o. sym (read-truth text written φ a h) ∙ r.says-true o, λ o. sym (read-truth text written φ a h) ∙ r.says-false o)

-- Demand 3: "A run from weight W with U universals takes at most W + U x (E + 1) steps; the reported number is the number of log
-- entries; replaying them gives the final formula; if step limit and log have room for that many, the run ends in a verdict or
-- where no step the rules of the run allow still fits." ---------------------------------------------------------

-- The step that a run takes counts, and is the first in document 01's order: none that counts is of a lower kind, or of its kind
-- and ahead of it.
pub choosing : (E : ℕ) (φ : Formula) → well_formed φ ≡ true → fits φ ≡ true → (k : Kind) (a b : ℕ) → choose E φ ≡ take_step k a b → First E φ k a b
choosing = choose-first

-- It takes none exactly if no entry at all counts. Then it is stuck for room exactly if some entry fails only for room.
pub record StuckRight (E : ℕ) (φ : Formula) : Type 0 where
  pub none-counts : (r : Bool) → choose E φ ≡ stuck r → (e : ℕ) → allowed E φ e ≡ false
  pub one-counts : (k : Kind) (a b : ℕ) → choose E φ ≡ take_step k a b → allowed E φ (entry k a b) ≡ true
  pub for-room : choose E φ ≡ stuck true → (e : ℕ) × (blocked E φ e ≡ true)
  pub not-for-room : choose E φ ≡ stuck false → (e : ℕ) → blocked E φ e ≡ false

pub stopping : (E : ℕ) (φ : Formula) → fits φ ≡ true → StuckRight E φ
stopping E φ f =
    record {
      none-counts = stuck-none E φ;
      one-counts = takes-allowed E φ f;
      for-room = stuck-room E φ f;
      not-for-room = λ h e. false_of (blocked E φ e) (λ b. false≢true (stuck-blocked E φ false h e b));
    }

-- All that is promised of a run from a well formed formula within the limits (`RunRight` has it part by part): every formula on
-- the way is well formed, within the limits and of the same truth; the log replays to the final formula, with nothing refused and
-- as many entries as steps; there are at most W + U x (E + 1) of them, and at most the smaller of limit and log room; TRUE and
-- FALSE are the truth; at FINISHED and OUT OF ROOM no entry at all counts, and OUT OF ROOM says that one failed only for room;
-- at STOPPED every step that was left is taken and an entry still counts; and where limit and log have room for the bound, the
-- run does not end STOPPED.
pub running : (E limit bytes : ℕ) (φ : Formula) → well_formed φ ≡ true → fits φ ≡ true → RunRight E (min limit (bytes / 4)) φ (run E limit bytes φ)
unfolding run
running E limit bytes φ w f = run-right E (min limit (bytes / 4)) φ w f

-- The bound, as document 01 writes it.
pub bound : (E limit bytes : ℕ) (φ : Formula) → well_formed φ ≡ true → fits φ ≡ true
    → length (run E limit bytes φ).log ≤ weight φ + universals φ.prefix * (E + 1)
unfolding step_bound
bound E limit bytes φ w f = (running E limit bytes φ w f).few

-- Replay: whatever the log, the formula that it leaves is well formed, within the limits and of the same truth, and is that of the
-- entries applied, none of which is refused.
pub replaying : (φ : Formula) → well_formed φ ≡ true → fits φ ≡ true → (log : List ℕ)
    → Kept φ (replay φ log).formula × (replay φ (take (replay φ log).applied log) ≡ record { stop = all_applied; formula = (replay φ log).formula; applied = (replay φ log).applied })
replaying φ w f log = (replay-kept φ w f log, replay-beginning φ log)

-- A run that was stopped and goes on: with the same E, from the formula left, and limit and log room that add up to those of one
-- uninterrupted run, the two give its outcome, its formula and its log in two parts.
pub continuing : (E l₁ b₁ l₂ b₂ l b : ℕ) (φ : Formula) → min l₁ (b₁ / 4) + min l₂ (b₂ / 4) ≡ min l (b / 4) → (run E l₁ b₁ φ).outcome ≡ stopped
    → run E l b φ ≡ joined (run E l₁ b₁ φ) (run E l₂ b₂ (run E l₁ b₁ φ).final)
continuing = run-continued

-- Demand 1, so far as definitions go: each outcome is given by a function of what goes in. So two outcomes that both meet a
-- definition coincide. It is said once, for every function. ------------------------------------------------------
pub determined : {A B : Type 0} (f : A → B) (x : A) (y z : B) → y ≡ f x → z ≡ f x → y ≡ z
determined f x y z p q = p ∙ sym q
