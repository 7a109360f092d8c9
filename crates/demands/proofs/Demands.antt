-- Whatever keeps to the contract of an operation of the face meets the customer's demands on it (specs/Demands.antt spells them
-- out), and two outcomes that keep to it coincide. Each theorem speaks of the contract alone, which the code is proved to keep;
-- Promises.antt speaks of the definitions behind it. Assumes nothing.
use mathlib.Core.Path.{◌≡◌}
use mathlib.Core.Bool.{true}
use mathlib.Core.List.{List}
use Prim.Native.Nat.{ℕ, ◌*◌, ◌≤◌}
use lib.ListN.{take}
use Rattle.std.specs.Prelude.{Ok}
use Rattle.table.specs.Lent.{named, right_lengths}
use Rattle.judging.specs.Check.{asked, asked_number, literals_part}
use Rattle.table.specs.declared.Counts.{Counts}
use Rattle.reader.specs.Reading.{read_number, Reads}
use Rattle.reader.specs.declared.Reading.{Reading}
use Rattle.writer.specs.Written.{write_number, Wrote}
use Rattle.writer.specs.declared.Writing.{Writing}
use Rattle.standing.specs.Standing.{formula_in}
use Rattle.replaying.specs.Stepping.{Steps}
use Rattle.running.specs.Running.{run_number, Runs}
use Rattle.replaying.specs.Replaying.{Replays}
use Rattle.demands.specs.Demands.{ReadDemands, WriteDemands, LiteralsDemands, NumberDemands, StepDemands, RunDemands, ReplayDemands, VerdictDemands, RetraceDemands, ReadBack}
use Rattle.replaying.specs.declared.stepping.Stepped.{Stepped}
use Rattle.running.specs.declared.runs.Ran.{Ran}
use Rattle.replaying.specs.declared.replays.Replayed.{Replayed}
use Rattle.writer.proofs.RoundTrip.{wrote-once}
use Rattle.demands.proofs.ReadDemands.{read-demands, reads-once}
use Rattle.demands.proofs.WriteDemands.{numbered, write-demands}
use Rattle.demands.proofs.LiteralsDemands.{literals-demands, literals-once, number-demands, number-once}
use Rattle.demands.proofs.StepDemands.{step-demands, steps-once}
use Rattle.demands.proofs.RunDemands.{run-demands, runs-once}
use Rattle.demands.proofs.ReplayDemands.{replay-demands, replays-once}
use Rattle.demands.proofs.RoundTrip.{read_back}
use Rattle.demands.proofs.Joint.{verdict, retrace}

-- Demand 2 ----------------------------------------------------------------------------------------------------
-- A text that is read leaves its formula, tidied and of the same truth, in tables that the next call takes; every text that writes
-- a formula is read; a refusal gives the first fault, and leaves zeros, or nothing written where a length is wrong.
pub reading : (text a b : List ℕ) (r : Reading) (a' b' : List ℕ) → Reads text a b r a' b' → ReadDemands text a b r a' b'
reading = read-demands

-- What is written is the formula's text. It reads back to the same formula, and by the code to the same record and table.
pub writing : (a b : List ℕ) (c : Counts) (out : List ℕ) (r : Writing) (after : List ℕ) → Wrote a b c out r after → WriteDemands a b c out r after
writing = write-demands

pub reading-back : (a b : List ℕ) (c : Counts) (out : List ℕ) (r : Writing) (after : List ℕ) → Wrote a b c out r after → write_number r.answer ≡ 0
    → (x y : List ℕ) → right_lengths x y ≡ true → (q : Reading) (x' y' : List ℕ) → Reads (take r.bytes after) x y q x' y'
    → ReadBack (named a b c) c q x' y'
reading-back a b c out r after w n = read_back a b c out r after w (numbered r.answer n)

-- The literals are those of the formula, and the number says why there are none.
pub asking : (a b : List ℕ) (c : Counts) (part : List ℕ) → part ≡ literals_part a b c → LiteralsDemands a b c part
asking = literals-demands

pub asking-why : (a b : List ℕ) (c : Counts) (n : ℕ) → n ≡ asked_number (asked a b c) → NumberDemands a b c n
asking-why = number-demands

-- A step that is taken leaves the result, of the same truth; one that is refused leaves the formula.
pub stepping : (a b : List ℕ) (c : Counts) (e : ℕ) (r : Stepped) (a' b' : List ℕ) → Steps a b c e r a' b' → StepDemands a b c e r a' b'
stepping = step-demands

-- A verdict on what was read is the truth of the formula as it is written in the text.
pub judging : (text a b : List ℕ) (r : Reading) (a₁ b₁ : List ℕ) → Reads text a b r a₁ b₁ → read_number r.answer ≡ 0
    → (E limit : ℕ) (log : List ℕ) (q : Ran) (a₂ b₂ log' : List ℕ) → Runs a₁ b₁ r.counts E limit log q a₂ b₂ log' → VerdictDemands text E q
judging = verdict

-- Demand 3 ----------------------------------------------------------------------------------------------------
-- A verdict is the truth of the formula that was lent; at most W + U x (E + 1) steps, as many as log entries and as the definition
-- takes; the log replays to the formula that is left; FINISHED, OUT OF ROOM and STOPPED say whether a step remains; with room for
-- the bound the answer is not STOPPED; the next call takes what is left.
pub running : (a b : List ℕ) (c : Counts) (E limit : ℕ) (log : List ℕ) (r : Ran) (a' b' log' : List ℕ) → Runs a b c E limit log r a' b' log'
    → RunDemands a b c E limit log r a' b' log'
running = run-demands

-- A replay leaves a formula of the same truth, that of the entries applied, and gives the refusal of the first that is refused.
pub replaying : (a b : List ℕ) (c : Counts) (log : List ℕ) (r : Replayed) (a' b' : List ℕ) → Replays a b c log r a' b' → ReplayDemands a b c log r a' b'
replaying = replay-demands

-- The replay of the log that a run wrote, from tables that hold the formula lent to the run, leaves what the run left.
pub retracing : (a b : List ℕ) (c : Counts) (E limit : ℕ) (log : List ℕ) (r : Ran) (a' b' log' : List ℕ) → Runs a b c E limit log r a' b' log'
    → 20 ≤ run_number r.answer
    → (x y : List ℕ) (d : Counts) → asked x y d ≡ Ok tt → formula_in x y d ≡ formula_in a b c
    → (q : Replayed) (x' y' : List ℕ) → Replays x y d (take (4 * r.steps) log') q x' y'
    → RetraceDemands (formula_in a' b' r.counts) r.steps q x' y'
retracing = retrace

-- Demand 1: "two conforming outcomes coincide", for every operation --------------------------------------------
pub read-once : (text a b : List ℕ) (r : Reading) (a' b' : List ℕ) → Reads text a b r a' b'
    → (q : Reading) (x y : List ℕ) → Reads text a b q x y → (r ≡ q) × (a' ≡ x) × (b' ≡ y)
read-once = reads-once

pub write-once : (a b : List ℕ) (c : Counts) (out : List ℕ) (r : Writing) (after : List ℕ) → Wrote a b c out r after
    → (q : Writing) (x : List ℕ) → Wrote a b c out q x → (r ≡ q) × (after ≡ x)
write-once = wrote-once

pub asked-once : (a b : List ℕ) (c : Counts) (part other : List ℕ) → part ≡ literals_part a b c → other ≡ literals_part a b c → part ≡ other
asked-once = literals-once

pub why-once : (a b : List ℕ) (c : Counts) (n m : ℕ) → n ≡ asked_number (asked a b c) → m ≡ asked_number (asked a b c) → n ≡ m
why-once = number-once

pub step-once : (a b : List ℕ) (c : Counts) (e : ℕ) (r : Stepped) (a' b' : List ℕ) → Steps a b c e r a' b'
    → (q : Stepped) (x y : List ℕ) → Steps a b c e q x y → (r ≡ q) × (a' ≡ x) × (b' ≡ y)
step-once = steps-once

pub run-once : (a b : List ℕ) (c : Counts) (E limit : ℕ) (log : List ℕ) (r : Ran) (a' b' log' : List ℕ) → Runs a b c E limit log r a' b' log'
    → (q : Ran) (x y l : List ℕ) → Runs a b c E limit log q x y l → (r ≡ q) × (a' ≡ x) × (b' ≡ y) × (log' ≡ l)
run-once = runs-once

pub replay-once : (a b : List ℕ) (c : Counts) (log : List ℕ) (r : Replayed) (a' b' : List ℕ) → Replays a b c log r a' b'
    → (q : Replayed) (x y : List ℕ) → Replays a b c log q x y → (r ≡ q) × (a' ≡ x) × (b' ≡ y)
replay-once = replays-once
