-- The reader's loop: what is read so far is a state of the definition's reading, and the record, the table, the scratch, the
-- ranks and the marks hold it. One law for the start, one for each way a turn ends, one for the end.
-- Assumes nothing.
use mathlib.Core.Path.{◌≡◌, refl, sym, ap, ◌∙◌, subst}
use mathlib.Core.Bool.{true, false, cond, ◌&&◌}
use mathlib.Core.List.{List, [], ◌∷◌, ◌++◌}
use Prim.Native.Nat.{ℕ, ◌-◌, ◌≤◌, ◌<◌}
use native.Mathlib.Omega.{arith}
use borrow.Author.Tests.{le-ltb, leb-true, le-leb}
use lib.Dec.{leb}
use lib.ListN.{length, take, drop, length-append}
use Rattle.meaning.specs.Lists.{all_of}
use Rattle.meaning.specs.Formula.{Formula, var, mentions}
use Rattle.meaning.specs.WellFormed.{bound, max_variables, max_text}
use Rattle.qdimacs.specs.Faults.{SHORT}
use Rattle.qdimacs.specs.Bytes.{preamble, tokens}
use Rattle.qdimacs.specs.Words.{word_of, variable_of}
use Rattle.qdimacs.specs.Decide.{decide}
use Rattle.qdimacs.specs.Read.{State, reads, start, act, on_tokens, complete, fault, good, finish, as_written, tidied_answer, read}
use Rattle.qdimacs.specs.declared.Word.{Word}
use Rattle.qdimacs.specs.declared.Move.{Move}
use Rattle.qdimacs.specs.declared.Move.TheVariants.{Fault, Go, SetM, SetC, Entry, Literal, Close}
use Rattle.scan.specs.Scan.{next_in}
use Rattle.scan.specs.Cut.{sat_word}
use Rattle.scan.specs.Phases.{right_phase}
use Rattle.std.specs.Prelude.{Result, Some, None, Ok, Err}
use Rattle.table.specs.declared.Counts.{Counts}
use Rattle.table.specs.Table.{table_of, counts_of}
use Rattle.table.specs.Ranks.{ranks_of}
use Rattle.tracks.specs.Tracks.{so_far, fresh, Tracks, Allowed, Ready, entered, Steps}
use Rattle.reader.specs.Reading.{outcome_of, concluded, Filled}
use Rattle.tracks.specs.declared.Reader.{Reader}
use Rattle.reader.specs.declared.turns.Fault as turns
use Rattle.qdimacs.proofs.Right.{Right, Where}
use Rattle.scan.proofs.Reached.{Reached, reached-start, reached-right, reached-phase, reached-end, reached-next, reached-fault}
use Rattle.meaning.proofs.Basics.{by_cases, and_l, and_r}
use Rattle.meaning.proofs.Lists.{all_append, all-le}
use Rattle.meaning.proofs.Prefix.{mentioned-all, mentioned-some}
use Rattle.tracks.proofs.TrackLaws.{closing}

-- the answer, from how the fold over the tokens ends
read_is : (s : List ℕ) → length s ≤ max_text → read s ≡ tidied_answer (finish (length s) (on_tokens (reads start) (tokens s)))
unfolding read as_written
read_is s h = rw (le-ltb max_text (length s) h)

filled-good : (s : List ℕ) (φ : Formula) → read s ≡ good φ → (o : Result Counts turns.Fault) → o ≡ Ok (counts_of φ false) → (t : List ℕ) → t ≡ table_of φ → Filled s o t
unfolding outcome_of
filled-good s φ e o q t k = record { outcome = rw e q; left = rw e k }

filled-fault : (s : List ℕ) (k a : ℕ) → read s ≡ fault k a → (o : Result Counts turns.Fault) → o ≡ Err (record { number = k; offset = a }) → (t : List ℕ) → Filled s o t
unfolding outcome_of
filled-fault s k a e o q t = record { outcome = rw e q; left = rw e tt }

pub record Filling (s : List ℕ) (at : ℕ) (r : Reader) (t w k m : List ℕ) : Type 0 where
  pub state : State
  pub reached : Reached s at state
  pub tracks : Tracks state r t w k m

pub filling-start : (s : List ℕ) (at : ℕ) → at ≡ preamble false s → (r : Reader) → r ≡ fresh → {t w k m : List ℕ} → Tracks start fresh t w k m → Filling s at r t w k m
filling-start s at e r q h = record { state = start; reached = reached-start s at e; tracks = rw q h }

last-bound : (p raw : List ℕ) (l : ℕ) → bound p (raw ++ (l ∷ [])) ≡ true → mentions p (var l) ≡ true
unfolding bound all_of
last-bound p raw l h =
    and_l (mentions p (var l)) true
    (and_r (all_of (λ l. mentions p (var l)) raw) (mentions p (var l) && true) (sym (all_append (λ l. mentions p (var l)) raw (l ∷ [])) ∙ h))

literal-range : (l : ℕ) → 0 < var l → var l ≤ max_variables → (2 ≤ l) × (l < 2048)
unfolding var
literal-range l h k = (omega arith, omega arith)

right-numbers : (st : State) → Right st → all_of (λ q. leb (var q) max_variables) st.prefix ≡ true
right-numbers st h =
    all-le (λ q. leb (var q) st.m) (λ q. leb (var q) max_variables) st.prefix
    (λ q e. le-leb (var q) max_variables (omega (arith, leb-true (var q) st.m e, h.small))) h.numbers

module _ (s : List ℕ) (at : ℕ) (r : Reader) (t w k m : List ℕ) (f : Filling s at r t w k m) where
  abbrev st : State
  st = f.state

  right : Right st
  right = reached-right s at st f.reached

  -- what judging a word asks for
  pub filling-judge : right_phase r.phase × (r.m ≤ max_variables)
  filling-judge =
      let h = f.tracks.stores in
      (subst right_phase (sym h.phase) (reached-phase s at st f.reached), omega (arith, h.m, right.small))

  -- no token is left
  pub filling-end : length s ≤ max_text → next_in s at ≡ None → (o : Result Counts turns.Fault) → o ≡ concluded r (length s) → Filled s o t
  unfolding finish tidied_answer concluded so_far
  filling-end short none o q =
      let h = f.tracks.stores in
      let done : read s ≡ tidied_answer (cond (complete st.phase st.c) (good (record { prefix = st.prefix; clauses = st.clauses })) (fault SHORT (length s))) =
      read_is s short ∙ rw (reached-end s at st f.reached none) in
      let same : complete r.phase r.c ≡ complete st.phase st.c = cc in
      by_cases (complete st.phase st.c)
      (λ b. filled-good s (so_far st) (done ∙ rw b) o (q ∙ rw (same ∙ b) (ap {B = Result Counts turns.Fault} Ok (h.table.counts ∙ ap (counts_of (so_far st)) h.first))) t h.table.table)
      (λ b. filled-fault s SHORT (length s) (done ∙ rw b) o (q ∙ rw (same ∙ b)) t)

  -- a token from a to e: its word and its move
  module _ (a e : ℕ) (next : next_in s at ≡ Some (a, e)) (word : Word) (mv : Move)
      (spelt : word ≡ sat_word (word_of (take (e - a) (drop a s))))
      (judged : (p : List ℕ) → all_of (λ q. leb (var q) max_variables) p ≡ true → k ≡ ranks_of p → mv ≡ decide r.phase r.m r.c (mentions p (variable_of word)) word) where
    moved : mv ≡ decide st.phase st.m st.c (mentions st.prefix (variable_of word)) word
    moved =
        let h = f.tracks.stores in
        let j = judged st.prefix (right-numbers st right) h.ranks in
        cc

    later : (st' : State) → act st a mv ≡ reads st' → Right st'
    later st' h = reached-right s e st' (reached-next s at st f.reached a e next word mv spelt moved st' h)

    allowed : (x : Move) → mv ≡ x → Allowed st x
    unfolding act entered closing Where
    allowed (Fault x) q = tt
    allowed (Go x) q = tt
    allowed (SetM x) q = tt
    allowed (SetC x) q = tt
    allowed (Entry x) q = let h = later (entered st x) (rw q) in (h.good, right-numbers (entered st x) h, h.place.1.0)
    allowed (Literal x) q =
        let h = later _ (ap (act st a) q) in
        let m = last-bound st.prefix st.pending x h.pending in
        literal-range x (mentioned-some st.prefix (var x) h.good m)
        (leb-true (var x) max_variables (mentioned-all (λ x. leb x max_variables) st.prefix (var x) (right-numbers st right) m))
    allowed Close q =
        (right.good, right.clauses, λ z. let h = later (closing st) (rw (q, z)) in omega (arith, h.clauses, length-append st.clauses (st.pending ∷ [])))

    -- what the move asks for
    pub turn-ready : Ready r mv t w k m
    turn-ready = record { state = st; tracks = f.tracks; allowed = allowed mv refl }

    module _ (t' w' k' m' : List ℕ) (o : Result Reader ℕ)
        (went : (st : State) (at : ℕ) → Tracks st r t w k m → Allowed st mv → Steps st at mv o t' w' k' m') where
      steps : (x : Result Reader ℕ) → o ≡ x → Steps st a mv x t' w' k' m'
      steps x q = subst (λ (o : Result Reader ℕ). Steps st a mv o t' w' k' m') q (went st a f.tracks (allowed mv refl))

      -- the move is a fault
      pub turn-stop : length s ≤ max_text → (x : ℕ) → o ≡ Err x → Filled s (Err (record { number = x; offset = a })) t'
      unfolding finish tidied_answer
      turn-stop short x q =
          filled-fault s x a (read_is s short ∙ rw (reached-fault s at st f.reached a e next word mv spelt moved x a (steps (Err x) q))) (Err (record { number = x; offset = a })) refl t'

      -- the reader goes on
      pub turn_on : (n : Reader) → o ≡ Ok n → Filling s e n t' w' k' m'
      turn_on n q =
          let h = steps (Ok n) q in
          record { state = h.0; reached = reached-next s at st f.reached a e next word mv spelt moved h.0 h.1; tracks = h.2 }
