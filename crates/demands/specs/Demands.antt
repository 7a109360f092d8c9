-- What the customer demands of each operation of the face, by what goes in and what comes out. proofs/Demands.antt has the
-- theorems: whatever keeps to an operation's contract meets its demands. All numbers are document 01's.
-- The tables a and b are lent with the record c, and are left as a' and b'.
-- Assumes nothing.
use Rattle.std.specs.Prelude.{◌≡◌, true, false, List, [], ◌∷◌, ℕ, ◌+◌, ◌*◌, ◌/◌, ◌≤◌, ◌<◌, min, length, take, drop, replicate, Ok, Err}
use Rattle.judging.specs.declared.Unfit.TheVariants as said
use Rattle.meaning.specs.Formula.{Formula}
use Rattle.meaning.specs.Game.{is_true}
use Rattle.meaning.specs.Tidy.{tidied}
use Rattle.meaning.specs.WellFormed.{weight, universals, max_text}
use Rattle.qdimacs.specs.Read.{fault, good, as_written, read}
use Rattle.rules.specs.Entry.{bad_length, entries, read_log, log_bytes}
use Rattle.rules.specs.Step.{Refusal, refusal_number, refused, stepped, step_of}
use Rattle.rules.specs.Choice.{allowed, blocked}
use Rattle.rules.specs.Run.{all_applied, replay, replay_bytes}
use Rattle.table.specs.Table.{literals_at, table_length, all_literals}
use Rattle.table.specs.Lent.{named, right_lengths}
use Rattle.judging.specs.Check.{Asked, asked, asked_number}
use Rattle.table.specs.declared.Counts.{Counts}
use Rattle.reader.specs.Reading.{read_number, lengths_right}
use Rattle.reader.specs.declared.Reading.{Reading}
use Rattle.writer.specs.Written.{write_number, text_of, number_of}
use Rattle.writer.specs.declared.Writing.{Writing}
use Rattle.standing.specs.Standing.{formula_in}
use Rattle.replaying.specs.Stepping.{step_number}
use Rattle.running.specs.Running.{run_number, run_in}
use Rattle.replaying.specs.declared.stepping.Stepped.{Stepped}
use Rattle.running.specs.declared.runs.Ran.{Ran}
use Rattle.replaying.specs.declared.replays.Replayed.{Replayed}

-- Common ------------------------------------------------------------------------------------------------------
abbrev pub zeros : List ℕ
zeros = replicate table_length 0

abbrev pub no_counts : Counts
no_counts = record { variables = 0; clauses = 0; literals = 0; second = false }

-- a formula stands where the record d says, in tables that the next call takes; φ has the same truth
pub record Left (φ : Formula) (a' b' : List ℕ) (d : Counts) : Type 0 where
  pub taken : asked a' b' d ≡ Ok tt
  pub same_truth : is_true (formula_in a' b' d) ≡ is_true φ

-- the tables and the record are left as x, y and z: those that were lent, where there is "nothing written", or zeros
pub record LeftAs (x y : List ℕ) (z : Counts) (a' b' : List ℕ) (d : Counts) : Type 0 where
  pub counts : d ≡ z
  pub first : a' ≡ x
  pub second : b' ≡ y

-- read --------------------------------------------------------------------------------------------------------
-- the text writes a formula; tidied, it stands in the first table, and the second is zero
pub record TextRead (text : List ℕ) (a' b' : List ℕ) (d : Counts) : Type 0 where
  pub written : Formula
  pub is-written : as_written text ≡ good written
  pub is-tidied : formula_in a' b' d ≡ tidied written
  pub left : Left written a' b' d
  pub side : d.second ≡ false
  pub spare : b' ≡ zeros

pub record ReadDemands (text a b : List ℕ) (r : Reading) (a' b' : List ℕ) : Type 0 where
  -- 0: it is read; and every text that writes a formula is, where the lengths are right
  pub reads : read_number r.answer ≡ 0 → TextRead text a' b' r.counts
  pub accepts : lengths_right text a b ≡ true → (φ : Formula) → read text ≡ good φ → read_number r.answer ≡ 0
  -- 3 to 9: the number and the offset are those of the text's first fault; "both tables zero, counts zero"
  pub faults : 3 ≤ read_number r.answer → (read text ≡ fault (read_number r.answer) r.offset) × LeftAs zeros zeros no_counts a' b' r.counts
  -- 1: a length is wrong, and nothing is written
  pub refuses : read_number r.answer ≡ 1 → (lengths_right text a b ≡ false) × LeftAs a b no_counts a' b' r.counts

-- write -------------------------------------------------------------------------------------------------------
pub record WriteDemands (a b : List ℕ) (c : Counts) (out : List ℕ) (r : Writing) (after : List ℕ) : Type 0 where
  -- 0: the bytes written are the formula's text, which reads back to it; the bytes past them stay
  pub writes : write_number r.answer ≡ 0
      → (take r.bytes after ≡ text_of a b c) × (read (take r.bytes after) ≡ good (formula_in a b c)) × (drop r.bytes after ≡ drop r.bytes out)
  -- tables that nothing is said against are written where there is room, and 65,536 bytes are room for every text
  pub accepts : asked a b c ≡ Ok tt → length (text_of a b c) ≤ length out → write_number r.answer ≡ 0
  pub short : asked a b c ≡ Ok tt → length (text_of a b c) ≤ max_text
  -- 1, 2, 11, in this order; a refusal leaves the output
  pub number : write_number r.answer ≡ number_of a b c out
  pub refuses : (write_number r.answer ≡ 0 → ⊥) → (r.bytes ≡ 0) × (after ≡ out)

-- literals, literals_number -----------------------------------------------------------------------------------
pub record LiteralsDemands (a b : List ℕ) (c : Counts) (part : List ℕ) : Type 0 where
  -- the literals of the formula, clause by clause: the used part of the table that the record names
  pub given : asked a b c ≡ Ok tt → (part ≡ all_literals (formula_in a b c).clauses) × (part ≡ take c.literals (drop literals_at (named a b c)))
  pub refuses : (asked a b c ≡ Ok tt → ⊥) → part ≡ []

pub record NumberDemands (a b : List ℕ) (c : Counts) (n : ℕ) : Type 0 where
  pub given : n ≡ 0 → asked a b c ≡ Ok tt
  pub length : n ≡ 1 → right_lengths a b ≡ false
  pub malformed : n ≡ 2 → asked a b c ≡ Err said.Malformed
  pub only : n ≤ 2

-- step --------------------------------------------------------------------------------------------------------
pub record StepDemands (a b : List ℕ) (c : Counts) (e : ℕ) (r : Stepped) (a' b' : List ℕ) : Type 0 where
  -- 0: the formula that is left is the step's result, of the same truth
  pub steps : step_number r.answer ≡ 0
      → (asked a b c ≡ Ok tt) × (step_of (formula_in a b c) e ≡ stepped (formula_in a' b' r.counts)) × Left (formula_in a b c) a' b' r.counts
  -- 10, 11, 12: the step's own refusal; the record and the table that it names are as they were
  pub refuses : 10 ≤ step_number r.answer
      → (y : Refusal) × (step_of (formula_in a b c) e ≡ refused y) × (step_number r.answer ≡ refusal_number y) × (r.counts ≡ c) × (named a' b' c ≡ named a b c)
  -- 1, 2: nothing written
  pub nothing : 1 ≤ step_number r.answer → step_number r.answer ≤ 2
      → (step_number r.answer ≡ asked_number (asked a b c)) × LeftAs a b c a' b' r.counts

-- run ---------------------------------------------------------------------------------------------------------
-- W + U x (E + 1), from the formula that was lent
abbrev pub most_steps : ℕ → Formula → ℕ
most_steps E φ = weight φ + universals φ.prefix * (E + 1)

-- a run from φ to ψ, with allowance E and room for n steps, that took `steps` and gave the number k
pub record RunSays (E n : ℕ) (φ ψ : Formula) (steps k : ℕ) : Type 0 where
  pub few : steps ≤ most_steps E φ
  pub within : steps ≤ n
  -- 20 TRUE, 21 FALSE: the truth of the formula that was lent
  pub is-true : k ≡ 20 → is_true φ ≡ true
  pub is_false : k ≡ 21 → is_true φ ≡ false
  -- 22 FINISHED: no entry is allowed, nor does one fail only for room; 23 OUT OF ROOM: none is allowed, and one fails only for room
  pub finished : k ≡ 22 → (e : ℕ) → (allowed E ψ e ≡ false) × (blocked E ψ e ≡ false)
  pub out-of-room : k ≡ 23 → ((e : ℕ) → allowed E ψ e ≡ false) × ((e : ℕ) × (blocked E ψ e ≡ true))
  -- 24 STOPPED: all room for steps is used up and an entry is allowed; never, if there is room for the bound
  pub stopped : k ≡ 24 → (steps ≡ n) × ((e : ℕ) × (allowed E ψ e ≡ true))
  pub ends : most_steps E φ ≤ n → k ≡ 24 → ⊥

pub record RunDone (a b : List ℕ) (c : Counts) (E limit : ℕ) (log : List ℕ) (r : Ran) (a' b' log' : List ℕ) : Type 0 where
  pub given : asked a b c ≡ Ok tt
  pub left : Left (formula_in a b c) a' b' r.counts
  pub says : RunSays E (min limit (length log / 4)) (formula_in a b c) (formula_in a' b' r.counts) r.steps (run_number r.answer)
  -- the steps are those of the definition's run, and the log has an entry for each; the bytes past them stay
  pub counted : r.steps ≡ length (run_in a b c E limit log).log
  pub logged : take (4 * r.steps) log' ≡ log_bytes (run_in a b c E limit log).log
  pub stays : drop (4 * r.steps) log' ≡ drop (4 * r.steps) log
  -- replaying them from the formula that was lent gives the final one, with nothing refused
  pub replays : replay_bytes (formula_in a b c) (take (4 * r.steps) log') ≡ record { stop = all_applied; formula = formula_in a' b' r.counts; applied = r.steps }

-- the numbers 1, 2 and 13, by what is said of the tables
unfoldable pub refused_number : Asked → ℕ
refused_number (Err said.WrongLength) = 1
refused_number (Err said.Malformed) = 2
refused_number (Ok u) = 13

pub record RunDemands (a b : List ℕ) (c : Counts) (E limit : ℕ) (log : List ℕ) (r : Ran) (a' b' log' : List ℕ) : Type 0 where
  pub runs : 20 ≤ run_number r.answer → RunDone a b c E limit log r a' b' log'
  pub accepts : asked a b c ≡ Ok tt → E ≤ 1000 → 20 ≤ run_number r.answer
  -- 1, 2, 13: nothing written, 0 steps
  pub refuses : run_number r.answer < 20
      → (run_number r.answer ≡ refused_number (asked a b c)) × LeftAs a b c a' b' r.counts × (log' ≡ log) × (r.steps ≡ 0)

-- replay ------------------------------------------------------------------------------------------------------
-- after n entries of es comes one that the formula ψ refuses, with the number k
pub record FirstRefused (es : List ℕ) (n : ℕ) (ψ : Formula) (k : ℕ) : Type 0 where
  pub entry : ℕ
  pub rest : List ℕ
  pub next : drop n es ≡ entry ∷ rest
  pub refusal : Refusal
  pub refuses : step_of ψ entry ≡ refused refusal
  pub number : k ≡ refusal_number refusal

-- a replay of the entries es from φ that left ψ after n entries and gave the number k
pub record ReplaySays (φ : Formula) (es : List ℕ) (ψ : Formula) (n k : ℕ) : Type 0 where
  pub applied : replay φ (take n es) ≡ record { stop = all_applied; formula = ψ; applied = n }
  pub done : k ≡ 0 → n ≡ length es
  pub refused : (k ≡ 0 → ⊥) → FirstRefused es n ψ k

pub record ReplayDemands (a b : List ℕ) (c : Counts) (log : List ℕ) (r : Replayed) (a' b' : List ℕ) : Type 0 where
  -- 0, 10, 11, 12: whatever the log, the formula that is left has the same truth
  pub left : asked a b c ≡ Ok tt → Left (formula_in a b c) a' b' r.counts
  pub replays : asked a b c ≡ Ok tt → (es : List ℕ) → read_log log ≡ entries es
      → ReplaySays (formula_in a b c) es (formula_in a' b' r.counts) r.applied (step_number r.answer)
  -- a log whose length is no multiple of 4 is refused before any step
  pub bad-length : asked a b c ≡ Ok tt → read_log log ≡ bad_length
      → (step_number r.answer ≡ 12) × (r.applied ≡ 0) × (formula_in a' b' r.counts ≡ formula_in a b c)
  -- 1, 2: nothing written
  pub refuses : (asked a b c ≡ Ok tt → ⊥)
      → (step_number r.answer ≡ asked_number (asked a b c)) × LeftAs a b c a' b' r.counts × (r.applied ≡ 0)

-- Two calls one after the other -------------------------------------------------------------------------------
-- read, then run on what was left: a verdict is the truth of the formula as it is written in the text
pub record VerdictDemands (text : List ℕ) (E : ℕ) (r : Ran) : Type 0 where
  pub written : Formula
  pub is-written : as_written text ≡ good written
  pub is-true : run_number r.answer ≡ 20 → is_true written ≡ true
  pub is_false : run_number r.answer ≡ 21 → is_true written ≡ false
  pub accepts : E ≤ 1000 → 20 ≤ run_number r.answer

-- run to the formula ψ, then replay of the log that it wrote, from any tables that hold the formula which was lent to the run:
-- nothing is refused, as many entries are applied as steps were taken, and the same formula is left
pub record RetraceDemands (ψ : Formula) (steps : ℕ) (q : Replayed) (a' b' : List ℕ) : Type 0 where
  pub none-refused : step_number q.answer ≡ 0
  pub all-applied : q.applied ≡ steps
  pub same-formula : formula_in a' b' q.counts ≡ ψ

-- write, then read of the bytes written into two tables of the right length: the record but for the side, and the table
pub record ReadBack (t : List ℕ) (c : Counts) (q : Reading) (a' b' : List ℕ) : Type 0 where
  pub read_again : read_number q.answer ≡ 0
  pub counts : q.counts ≡ record { variables = c.variables; clauses = c.clauses; literals = c.literals; second = false }
  pub first : a' ≡ t
  pub second : b' ≡ zeros
