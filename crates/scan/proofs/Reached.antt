-- A reader's loop against the definition of reading: what its state has passed and what is left make the tokens of the text.
-- One law for the start, one for each way a turn ends, one for the end.
-- Assumes nothing.
use mathlib.Core.Path.{◌≡◌, refl, sym, ap, ◌∙◌, subst}
use mathlib.Core.Bool.{false}
use mathlib.Core.List.{List, [], ◌∷◌, ◌++◌}
use Prim.Native.Nat.{ℕ, ◌-◌, ◌≤◌}
use borrow.Author.Tests.{le-ltb}
use lib.ListN.{length, take, drop}
use lib.Seq.{append_snoc}
use Rattle.meaning.specs.Formula.{mentions}
use Rattle.qdimacs.specs.Bytes.{Token, tokens_from, preamble, tokens}
use Rattle.qdimacs.specs.Words.{word_of, variable_of}
use Rattle.qdimacs.specs.Decide.{decide}
use Rattle.qdimacs.specs.Read.{State, Reading, reads, faulty, start, act, move_of, on_token, on_tokens, as_written, finish}
use Rattle.qdimacs.specs.declared.Word.{Word}
use Rattle.qdimacs.specs.declared.Move.{Move}
use Rattle.qdimacs.specs.declared.Phase.{Phase}
use Rattle.qdimacs.specs.declared.Phase.TheVariants.{AtP, AtCnf, AtM, AtC, Line, Open, Vars, Clause, Full}
use Rattle.scan.specs.Scan.{next_in}
use Rattle.scan.specs.Cut.{sat_word}
use Rattle.scan.specs.Phases.{right_phase}
use Rattle.std.specs.Prelude.{Some, None}
use Rattle.meaning.specs.WellFormed.{max_text}
use Rattle.qdimacs.proofs.Right.{Right, RightSoFar, Where, reading-right}
use Rattle.scan.proofs.Tokens.{found, none_left, preamble-le}
use Rattle.scan.proofs.Cut.{sat-decide}

-- the reader has come to the offset `at` with the state `st`
pub record Reached (s : List ℕ) (at : ℕ) (st : State) : Type 0 where
  pub inside : at ≤ length s
  pub passed : List Token
  pub whole : tokens s ≡ passed ++ tokens_from false at (drop at s)
  pub state : on_tokens (reads start) passed ≡ reads st

pub stays-faulty : (k a : ℕ) (ts : List Token) → on_tokens (faulty k a) ts ≡ faulty k a
unfolding on_tokens
stays-faulty k a [] = refl
stays-faulty k a (t ∷ ts) = refl

tokens_append : (xs ys : List Token) (r : Reading) → on_tokens r (xs ++ ys) ≡ on_tokens (on_tokens r xs) ys
unfolding on_tokens
tokens_append [] ys r = refl
tokens_append (x ∷ xs) ys (reads st) = tokens_append xs ys (on_token st x)
tokens_append (x ∷ xs) ys (faulty k a) = sym (stays-faulty k a ys)

-- at the first token that is no comment
pub reached-start : (s : List ℕ) (at : ℕ) → at ≡ preamble false s → Reached s at start
unfolding tokens on_tokens
reached-start s at e = record { inside = rw e (preamble-le false s); passed = []; whole = rw e; state = refl }

right-phase : (ph : Phase) (st : State) → Where ph st → right_phase ph
unfolding Where
right-phase AtP st h = tt
right-phase AtCnf st h = tt
right-phase AtM st h = tt
right-phase AtC st h = tt
right-phase Line st h = tt
right-phase (Open q) st h = h.0
right-phase (Vars q) st h = h.0
right-phase Clause st h = tt
right-phase Full st h = tt

module _ (s : List ℕ) (at : ℕ) (st : State) (r : Reached s at st) where
  -- what holds of every state of reading, so of this one
  pub reached-right : Right st
  unfolding RightSoFar
  reached-right = subst RightSoFar r.state (reading-right r.passed)

  pub reached-phase : right_phase st.phase
  reached-phase = right-phase st.phase st reached-right.place

  -- what is left makes the whole
  pub reached-goes : on_tokens (reads start) (tokens s) ≡ on_tokens (reads st) (tokens_from false at (drop at s))
  reached-goes = rw (r.whole, tokens_append r.passed (tokens_from false at (drop at s)) (reads start), r.state)

  -- no token is left
  pub reached-end : next_in s at ≡ None → on_tokens (reads start) (tokens s) ≡ reads st
  unfolding on_tokens
  reached-end h = reached-goes ∙ ap (on_tokens (reads st)) (none_left s at h)

  -- a token from a to e: its word w and its move mv, as the code has them
  module _ (a e : ℕ) (next : next_in s at ≡ Some (a, e)) (w : Word) (mv : Move)
      (word : w ≡ sat_word (word_of (take (e - a) (drop a s))))
      (moved : mv ≡ decide st.phase st.m st.c (mentions st.prefix (variable_of w)) w) where
    abbrev token : Token
    token = record { at = a; bytes = take (e - a) (drop a s) }

    token-act : on_token st token ≡ act st a mv
    unfolding on_token move_of
    token-act =
        rw (moved, word) (ap (act st a) (sym (sat-decide st.phase st.m st.c st.prefix reached-right.small (word_of (take (e - a) (drop a s))))))

    passed-one : on_tokens (reads start) (r.passed ++ (token ∷ [])) ≡ act st a mv
    unfolding on_tokens
    passed-one = rw (tokens_append r.passed (token ∷ []) (reads start), r.state) token-act

    whole-one : tokens s ≡ (r.passed ++ (token ∷ [])) ++ tokens_from false e (drop e s)
    whole-one = r.whole ∙ ap (λ (l : List Token). r.passed ++ l) (found s at a e next).first ∙ sym (append_snoc r.passed token (tokens_from false e (drop e s)))

    -- the move leads to another state
    pub reached-next : (st' : State) → act st a mv ≡ reads st' → Reached s e st'
    reached-next st' h = record { inside = (found s at a e next).within; passed = r.passed ++ (token ∷ []); whole = whole-one; state = passed-one ∙ h }

    -- the move is a fault: so is the whole
    pub reached-fault : (k b : ℕ) → act st a mv ≡ faulty k b → on_tokens (reads start) (tokens s) ≡ faulty k b
    reached-fault k b h =
        rw (whole-one, tokens_append (r.passed ++ (token ∷ [])) (tokens_from false e (drop e s)) (reads start), passed-one, h) (stays-faulty k b (tokens_from false e (drop e s)))

-- what is read of a text that is not too long
pub as-written : (s : List ℕ) (o : Reading) → length s ≤ max_text → on_tokens (reads start) (tokens s) ≡ o → as_written s ≡ finish (length s) o
unfolding as_written
as-written s o h e = rw (le-ltb max_text (length s) h, e)
