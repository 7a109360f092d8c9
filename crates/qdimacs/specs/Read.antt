-- Reading (document 01, "Reading and writing"): a fold over the tokens of the text, which keeps the clauses as they are
-- written; then the tidied formula.
-- Assumes nothing.
use Rattle.std.specs.Prelude.{Bool, true, false, cond, List, [], ◌∷◌, ◌++◌, ℕ, ◌+◌, ◌%◌, ltb, eqb, length}
use Rattle.meaning.specs.Formula.{Formula, mentions}
use Rattle.meaning.specs.Tidy.{build, tidied}
use Rattle.meaning.specs.WellFormed.{literals, max_literals, max_text}
use Rattle.qdimacs.specs.Faults.{LENGTH, SHORT, TOO-BIG}
use Rattle.qdimacs.specs.Bytes.{Token, tokens}
use Rattle.qdimacs.specs.Words.{word_of, variable_of}
use Rattle.qdimacs.specs.Decide.{decide}
use Rattle.qdimacs.specs.declared.Word.{Word}
use Rattle.qdimacs.specs.declared.Phase.{Phase}
use Rattle.qdimacs.specs.declared.Phase.TheVariants.{AtP, AtCnf, AtM, AtC, Line, Open, Vars, Clause, Full}
use Rattle.qdimacs.specs.declared.Move.{Move}
use Rattle.qdimacs.specs.declared.Move.TheVariants.{Fault, Go, SetM, SetC, Entry, Literal, Close}

-- what is read so far: M, C, the prefix, the closed clauses and the open one, as they are written
pub record State : Type 0 where
  pub phase : Phase
  pub m : ℕ
  pub c : ℕ
  pub prefix : List ℕ
  pub clauses : List (List ℕ)
  pub pending : List ℕ

-- "The first fault from the left is given, with the byte offset of its token": a fault has its number and its offset
pub data Reading : Type 0 where
  reads : State → Reading
  faulty : ℕ → ℕ → Reading

unfoldable pub start : State
start = record { phase = AtP; m = 0; c = 0; prefix = []; clauses = []; pending = [] }

-- after C clauses nothing may follow
unfoldable pub after_clause : ℕ → ℕ → Phase
after_clause closed c = cond (eqb closed c) Full Clause

-- "at a closing `0`, TOO BIG if the literals so far, tidied and equal clauses dropped, pass 8,191"
unfoldable pub passes_literals : List ℕ → List (List ℕ) → Bool
passes_literals p cs = ltb max_literals (literals (build p cs))

-- what a move does to the state; `at` is the token's offset
unfoldable pub act : State → ℕ → Move → Reading
act s at (Fault k) = faulty k at
act s at (Go ph) = reads (record { phase = ph; m = s.m; c = s.c; prefix = s.prefix; clauses = s.clauses; pending = s.pending })
act s at (SetM n) = reads (record { phase = AtC; m = n; c = s.c; prefix = s.prefix; clauses = s.clauses; pending = s.pending })
act s at (SetC n) = reads (record { phase = Line; m = s.m; c = n; prefix = s.prefix; clauses = s.clauses; pending = s.pending })
act s at (Entry e) =
    reads (record { phase = Vars (e % 2); m = s.m; c = s.c; prefix = s.prefix ++ (e ∷ []); clauses = s.clauses; pending = s.pending })
act s at (Literal l) =
    reads (record { phase = Clause; m = s.m; c = s.c; prefix = s.prefix; clauses = s.clauses; pending = s.pending ++ (l ∷ []) })
act s at Close =
    cond (passes_literals s.prefix (s.clauses ++ (s.pending ∷ []))) (faulty TOO-BIG at)
    (reads (record { phase = after_clause (length s.clauses + 1) s.c; m = s.m; c = s.c; prefix = s.prefix; clauses = s.clauses ++ (s.pending ∷ []); pending = [] }))

unfoldable pub move_of : State → Word → Move
move_of s w = decide s.phase s.m s.c (mentions s.prefix (variable_of w)) w

unfoldable pub on_token : State → Token → Reading
on_token s t = act s t.at (move_of s (word_of t.bytes))

unfoldable pub on_tokens : Reading → List Token → Reading
on_tokens r [] = r
on_tokens (faulty k at) (t ∷ ts) = faulty k at
on_tokens (reads s) (t ∷ ts) = on_tokens (on_token s t) ts

-- whether a text may end here: C clauses are there
unfoldable pub complete : Phase → ℕ → Bool
complete AtP c = false
complete AtCnf c = false
complete AtM c = false
complete AtC c = false
complete Line c = eqb c 0
complete (Open q) c = false
complete (Vars q) c = false
complete Clause c = false
complete Full c = true

-- a refusal: its number and an offset; or a formula
pub data Answer : Type 0 where
  fault : ℕ → ℕ → Answer
  good : Formula → Answer

-- "for SHORT, the text's length": at the end of a text of n bytes
unfoldable pub finish : ℕ → Reading → Answer
finish n (faulty k at) = fault k at
finish n (reads s) = cond (complete s.phase s.c) (good (record { prefix = s.prefix; clauses = s.clauses })) (fault SHORT n)

-- the formula as written: its clauses are raw, with their repeats and both phases
unfoldable pub as_written : List ℕ → Answer
as_written s = cond (ltb max_text (length s)) (fault LENGTH 0) (finish (length s) (on_tokens (reads start) (tokens s)))

-- the formula read: the same, tidied
unfoldable pub tidied_answer : Answer → Answer
tidied_answer (fault k at) = fault k at
tidied_answer (good r) = good (tidied r)

unfoldable pub read : List ℕ → Answer
read s = tidied_answer (as_written s)
