-- What reading gives for short texts, by computation: each fault, the order of the faults at one token, and what is no fault.
-- Assumes nothing.
use mathlib.Core.Path.{◌≡◌, refl}
use mathlib.Core.Bool.{true}
use mathlib.Core.List.{List, [], ◌∷◌, ◌++◌, map}
use Prim.Native.Nat.{ℕ, ◌<◌}
use native.Mathlib.Omega.{arith}
use borrow.Author.Tests.{lt-ltb}
use lib.ListN.{length}
use Rattle.meaning.specs.Lists.{all_of, any_of, keep_if, has, same}
use Rattle.meaning.specs.Formula.{plain, negated, var, odd, opposite, is_var, mentions, universal, right_of, any_exist}
use Rattle.meaning.specs.Tidy.{insert_new, ascending, both_phases, stays, reduce, tidy_sorted, tidy, add_tidied, build_on, build, tidied}
use Rattle.meaning.specs.WellFormed.{literals, max_literals, max_text}
use Rattle.qdimacs.specs.Faults.{LENGTH, SYNTAX, SHORT, RANGE, TWICE, UNBOUND, COUNT, TOO-BIG}
use Rattle.qdimacs.specs.Bytes.{is_blank, is_solid, is_digit, span, tokens_from, preamble, tokens, value, is_numeral}
use Rattle.qdimacs.specs.Words.{number_of, letter_of, word_of, variable_of, plain_of, literal_of}
use Rattle.qdimacs.specs.Decide.{on_p, on_cnf, on_m, on_c, on_variable, on_literal, on_line, decide}
use Rattle.qdimacs.specs.declared.Move.TheVariants.{Close}
use Rattle.qdimacs.specs.Read.{State, faulty, start, after_clause, passes_literals, act, move_of, on_token, on_tokens, complete, Answer, fault, good, finish, as_written, tidied_answer, read}
use Rattle.qdimacs.proofs.Quoted.{bytes_of}

-- a text, and what reading it gives
pub record Case : Type 0 where
  pub text : List ℕ
  pub gives : Answer

abbrev pub cases : List Case
cases =
    -- comments: CR LF ends one, as does an LF alone, and a CR alone does not; a `p` in one counts for nothing
    record { text = bytes_of "c x p\r\n \tcp\np cnf 1 1\r\ne 1 0\r\n1 1 0\r\n"; gives = good (record { prefix = 2 ∷ []; clauses = (2 ∷ []) ∷ [] }) } ∷
    record { text = bytes_of " c x\rp cnf 0 0"; gives = fault SHORT 14 } ∷
    -- after comments a line break counts as a blank, and the last line needs none; `c` is then no comment
    record { text = bytes_of "p\ncnf\n1\n1 e\n1\n0 1 0"; gives = good (record { prefix = 2 ∷ []; clauses = (2 ∷ []) ∷ [] }) } ∷
    record { text = bytes_of "p cnf 1 1\nc x\n"; gives = fault SYNTAX 10 } ∷
    -- equal quantifiers in a row, the last universal, an empty clause
    record { text = bytes_of "p cnf 3 2 e 3 0 e 1 0 a 2 0 0 -2 3 0"; gives = good (record { prefix = 6 ∷ 2 ∷ 5 ∷ []; clauses = [] ∷ (6 ∷ []) ∷ [] }) } ∷
    -- SYNTAX: out of place, its offset counts the comments; a leading zero; a plus; `-0`; a minus outside a clause; `e` or `a`
    -- after the first clause has begun
    record { text = bytes_of "c x\n q cnf 0 0"; gives = fault SYNTAX 5 } ∷
    record { text = bytes_of "p cnf 01 1"; gives = fault SYNTAX 6 } ∷
    record { text = bytes_of "p cnf 1 +1"; gives = fault SYNTAX 8 } ∷
    record { text = bytes_of "p cnf 1 1 e 1 0 -0"; gives = fault SYNTAX 16 } ∷
    record { text = bytes_of "p cnf 1 1 e -1 0"; gives = fault SYNTAX 12 } ∷
    record { text = bytes_of "p cnf 1 1 e 1 0 1 e"; gives = fault SYNTAX 18 } ∷
    record { text = bytes_of "p cnf 1 2 e 1 0 1 0 a"; gives = fault SYNTAX 20 } ∷
    -- SHORT, at the text's length
    record { text = bytes_of "p cnf 1 1 e 1 0 1 \n"; gives = fault SHORT 19 } ∷
    -- TOO BIG for M over 1,023 or C over 2,047, not before the token is SYNTAX, and at the first fault from the left
    record { text = bytes_of "p cnf 1023 0"; gives = good (record { prefix = []; clauses = [] }) } ∷
    record { text = bytes_of "p cnf 1024 x"; gives = fault TOO-BIG 6 } ∷
    record { text = bytes_of "p cnf 0 2047"; gives = fault SHORT 12 } ∷
    record { text = bytes_of "p cnf 0 2048"; gives = fault TOO-BIG 8 } ∷
    record { text = bytes_of "p cnf -1024 0"; gives = fault SYNTAX 6 } ∷
    -- RANGE: over M, of any length; a 0 in an empty quantifier line; after SYNTAX; before UNBOUND (no variable over M is
    -- quantified, so RANGE and TWICE never meet)
    record { text = bytes_of "p cnf 1 1 e 1 0 -99999999999999999999999 0"; gives = fault RANGE 16 } ∷
    record { text = bytes_of "p cnf 1 1 e 2 0"; gives = fault RANGE 12 } ∷
    record { text = bytes_of "p cnf 1 1 a 0 1 0"; gives = fault RANGE 12 } ∷
    record { text = bytes_of "p cnf 1 1 e -2 0"; gives = fault SYNTAX 12 } ∷
    record { text = bytes_of "p cnf 1 1 e 1 0 2 0"; gives = fault RANGE 16 } ∷
    -- TWICE, also with the other quantifier; UNBOUND
    record { text = bytes_of "p cnf 2 1 e 1 0 a 2 1 0"; gives = fault TWICE 20 } ∷
    record { text = bytes_of "p cnf 2 1 e 1 0 1 -2 0"; gives = fault UNBOUND 18 } ∷
    -- COUNT: any token after C clauses, before SYNTAX; with C = 0, any but `e` or `a` where a quantifier line could start
    record { text = bytes_of "p cnf 1 1 e 1 0 1 0 x"; gives = fault COUNT 20 } ∷
    record { text = bytes_of "p cnf 1 1 e 1 0 1 0 e"; gives = fault COUNT 20 } ∷
    record { text = bytes_of "p cnf 1 0 x"; gives = fault COUNT 10 } ∷
    record { text = bytes_of "p cnf 1 0 e 1 0 2"; gives = fault COUNT 16 } ∷
    record { text = bytes_of "p cnf 1 0 e x"; gives = fault SYNTAX 12 } ∷
    record { text = bytes_of "p cnf 1 0 a 1 0\n"; gives = good (record { prefix = 3 ∷ []; clauses = [] }) } ∷
    []

-- one theorem for the table
pub cases-read : map (λ (x : Case). read x.text) cases ≡ map (λ (x : Case). x.gives) cases
unfolding read tidied_answer as_written finish complete start on_tokens on_token move_of act after_clause passes_literals decide on_line on_literal on_variable on_c on_m on_cnf on_p literal_of plain_of variable_of word_of letter_of number_of is_numeral value tokens tokens_from preamble span is_digit is_solid is_blank bytes_of tidied build build_on add_tidied tidy tidy_sorted reduce stays both_phases ascending insert_new literals any_exist right_of universal mentions is_var opposite odd var negated plain same has keep_if any_of all_of
cases-read = refl

-- What no short text shows ------------------------------------------------------------------------------------
-- LENGTH: a text over 65,536 bytes, whatever stands in it
pub too_long : (s : List ℕ) → max_text < length s → read s ≡ fault LENGTH 0
unfolding read as_written tidied_answer
too_long s h = rw (lt-ltb max_text (length s) h)

-- TOO BIG, at a closing 0: the literals so far, tidied and equal clauses dropped, are over 8,191
pub too_many : (s : State) (at : ℕ) → max_literals < literals (build s.prefix (s.clauses ++ (s.pending ∷ []))) → act s at Close ≡ faulty TOO-BIG at
unfolding act
too_many s at h =
    let full : passes_literals s.prefix (s.clauses ++ (s.pending ∷ [])) ≡ true = unfold passes_literals in lt-ltb _ (literals (build s.prefix (s.clauses ++ (s.pending ∷ [])))) (omega arith) in
    rw full
