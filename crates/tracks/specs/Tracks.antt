-- The state of reading, as the code has it: its record, the table of the formula so far, the scratch that holds the open
-- clause, the ranks of the prefix, and the marks of the clauses so far.
-- Assumes nothing.
use Rattle.std.specs.Prelude.{◌≡◌, true, false, List, [], ◌∷◌, ◌++◌, ℕ, ◌+◌, ◌%◌, ◌≤◌, ◌<◌, leb, length, Option, Result, Ok, Err}
use Rattle.meaning.specs.Lists.{all_of}
use Rattle.meaning.specs.Formula.{Formula, var}
use Rattle.meaning.specs.Tidy.{tidied}
use Rattle.meaning.specs.WellFormed.{good_prefix, max_variables, max_clauses}
use Rattle.qdimacs.specs.Read.{State, reads, faulty, after_clause, passes_literals, act}
use Rattle.qdimacs.specs.declared.Phase.{Phase}
use Rattle.qdimacs.specs.declared.Phase.TheVariants.{AtP, AtC, Line, Vars, Clause}
use Rattle.qdimacs.specs.declared.Move.{Move}
use Rattle.qdimacs.specs.declared.Move.TheVariants.{Fault, Go, SetM, SetC, Entry, Literal, Close}
use Rattle.table.specs.Table.{empty_formula, counts_of, Holds}
use Rattle.table.specs.Ranks.{ranks_of}
use Rattle.table.specs.Pending.{empty_pending, Pends}
use Rattle.table.specs.declared.Counts.{Counts}
use Rattle.marks.specs.Marks.{Marks}
use Rattle.tracks.specs.declared.Reader.{Reader}

-- the formula of a state: the closed clauses, tidied
unfoldable pub so_far : State → Formula
so_far st = tidied (record { prefix = st.prefix; clauses = st.clauses })

-- The record of the reader ------------------------------------------------------------------------------------
abbrev pub fresh : Reader
fresh = record { phase = AtP; m = 0; c = 0; closed = 0; counts = counts_of empty_formula false; pending = empty_pending }

abbrev pub in_phase : Reader → Phase → Reader
in_phase r ph = record { phase = ph; m = r.m; c = r.c; closed = r.closed; counts = r.counts; pending = r.pending }

abbrev pub with_m : Reader → ℕ → Reader
with_m r n = record { phase = AtC; m = n; c = r.c; closed = r.closed; counts = r.counts; pending = r.pending }

abbrev pub with_c : Reader → ℕ → Reader
with_c r n = record { phase = Line; m = r.m; c = n; closed = r.closed; counts = r.counts; pending = r.pending }

abbrev pub with_entry : Reader → ℕ → Counts → Reader
with_entry r e d = record { phase = Vars (e % 2); m = r.m; c = r.c; closed = r.closed; counts = d; pending = r.pending }

abbrev pub with_pending : Reader → Option ℕ → Reader
with_pending r p = record { phase = Clause; m = r.m; c = r.c; closed = r.closed; counts = r.counts; pending = p }

abbrev pub with_closed : Reader → Counts → Reader
with_closed r d =
    record { phase = after_clause (r.closed + 1) r.c; m = r.m; c = r.c; closed = r.closed + 1; counts = d; pending = empty_pending }

-- What it stands for ------------------------------------------------------------------------------------------
-- the record, the table and the ranks hold the state, but for its open clause
pub record Stores (st : State) (r : Reader) (t k : List ℕ) : Type 0 where
  pub phase : r.phase ≡ st.phase
  pub m : r.m ≡ st.m
  pub c : r.c ≡ st.c
  pub closed : r.closed ≡ length st.clauses
  pub table : Holds (so_far st) t r.counts
  pub first : r.counts.second ≡ false
  pub ranks : k ≡ ranks_of st.prefix

-- and the scratch holds the open clause, and the marks are right
pub record Tracks (st : State) (r : Reader) (t scratch ranks marks : List ℕ) : Type 0 where
  pub stores : Stores st r t ranks
  pub pending : Pends st.pending scratch r.pending
  pub marked : Marks (so_far st).clauses marks

-- What a move needs -------------------------------------------------------------------------------------------
-- so much is known of a move that reading comes to: an entry's variable is new and in range, and no clause is there yet; a
-- literal is in range; the clauses are few
abbrev pub Allowed : State → Move → Type 0
Allowed st (Fault k) = Unit {0}
Allowed st (Go ph) = Unit {0}
Allowed st (SetM n) = Unit {0}
Allowed st (SetC n) = Unit {0}
Allowed st (Entry e) =
    (good_prefix (st.prefix ++ (e ∷ [])) ≡ true) × (all_of (λ q. leb (var q) max_variables) (st.prefix ++ (e ∷ [])) ≡ true) × (st.clauses ≡ [])
Allowed st (Literal l) = (2 ≤ l) × (l < 2048)
Allowed st Close =
    (good_prefix st.prefix ≡ true) × (length st.clauses ≤ max_clauses)
    × (passes_literals st.prefix (st.clauses ++ (st.pending ∷ [])) ≡ false → length st.clauses < max_clauses)

-- there is such a state
pub record Entering (r : Reader) (e : ℕ) (t ranks : List ℕ) : Type 0 where
  pub state : State
  pub stores : Stores state r t ranks
  pub allowed : Allowed state (Entry e)

pub record Ready (r : Reader) (mv : Move) (t scratch ranks marks : List ℕ) : Type 0 where
  pub state : State
  pub tracks : Tracks state r t scratch ranks marks
  pub allowed : Allowed state mv

-- What comes of it --------------------------------------------------------------------------------------------
unfoldable pub entered : State → ℕ → State
entered st e =
    record { phase = Vars (e % 2); m = st.m; c = st.c; prefix = st.prefix ++ (e ∷ []); clauses = st.clauses; pending = st.pending }

pub record Entered (st : State) (r : Reader) (e : ℕ) (n : Reader) (t ranks : List ℕ) : Type 0 where
  pub stores : Stores (entered st e) n t ranks
  pub pending : n.pending ≡ r.pending

-- the definition's step from the state, as the code takes it: the same fault, or a state that is held
abbrev pub Steps : State → ℕ → Move → Result Reader ℕ → List ℕ → List ℕ → List ℕ → List ℕ → Type 0
Steps st at mv (Err k) t scratch ranks marks = act st at mv ≡ faulty k at
Steps st at mv (Ok r) t scratch ranks marks = (st' : State) × (act st at mv ≡ reads st') × Tracks st' r t scratch ranks marks
