-- A text is refused for what stands in it with document 01's numbers 3 to 9 and no other, and the answer has the number.
-- Assumes nothing.
use mathlib.Core.Path.{◌≡◌, refl, sym, ◌∙◌, subst}
use mathlib.Core.Bool.{Bool, true, false, cond}
use mathlib.Core.List.{List, [], ◌∷◌, ◌++◌}
use mathlib.Core.Option.{Option, none, some}
use Prim.Native.Nat.{ℕ, ◌≤◌}
use native.Mathlib.Omega.{arith}
use borrow.Author.Tests.{le-ltb}
use lib.Dec.{ltb, eqb}
use lib.ListN.{length}
use Rattle.qdimacs.specs.Read as qdimacs
use Rattle.meaning.specs.Formula.{plain, negated, var}
use Rattle.meaning.specs.WellFormed.{max_variables, max_clauses, max_text}
use Rattle.qdimacs.specs.Faults.{SYNTAX, SHORT, RANGE, TWICE, UNBOUND, COUNT, TOO-BIG}
use Rattle.qdimacs.specs.Bytes.{Token, tokens}
use Rattle.qdimacs.specs.Words.{word_of, plain_of, literal_of}
use Rattle.qdimacs.specs.Decide.{on_p, on_cnf, on_m, on_c, on_variable, on_literal, on_line, decide}
use Rattle.qdimacs.specs.Read.{State, reads, faulty, start, passes_literals, act, move_of, on_token, on_tokens, complete, fault, good, finish, as_written, tidied_answer, read}
use Rattle.qdimacs.specs.declared.Word.{Word}
use Rattle.qdimacs.specs.declared.Word.TheVariants.{P, Cnf, E, A, Plain, Minus, Other}
use Rattle.qdimacs.specs.declared.Phase.{Phase}
use Rattle.qdimacs.specs.declared.Phase.TheVariants.{AtP, AtCnf, AtM, AtC, Line, Open, Vars, Clause, Full}
use Rattle.qdimacs.specs.declared.Move.{Move}
use Rattle.qdimacs.specs.declared.Move.TheVariants.{Fault, Go, SetM, SetC, Entry, Literal, Close}
use Rattle.reader.specs.Reading.{read_number, answer_for}
use Rattle.tracks.proofs.TrackLaws.{closing}

-- k is the number of an answer that refuses a text for what stands in it: 3 or more
abbrev pub Known : ℕ → Type 0
Known k = (read_number (answer_for k) ≡ k) × (3 ≤ k)

module _ where
  known-syntax : Known SYNTAX
  unfolding read_number answer_for
  known-syntax = (refl, omega arith)

  known-short : Known SHORT
  unfolding read_number answer_for
  known-short = (refl, omega arith)

  known-range : Known RANGE
  unfolding read_number answer_for
  known-range = (refl, omega arith)

  known_twice : Known TWICE
  unfolding read_number answer_for
  known_twice = (refl, omega arith)

  known-unbound : Known UNBOUND
  unfolding read_number answer_for
  known-unbound = (refl, omega arith)

  known-count : Known COUNT
  unfolding read_number answer_for
  known-count = (refl, omega arith)

  known-big : Known TOO-BIG
  unfolding read_number answer_for
  known-big = (refl, omega arith)

abbrev KnownMove : Move → Type 0
KnownMove (Fault k) = Known k
KnownMove (Go ph) = Unit {0}
KnownMove (SetM n) = Unit {0}
KnownMove (SetC n) = Unit {0}
KnownMove (Entry e) = Unit {0}
KnownMove (Literal l) = Unit {0}
KnownMove Close = Unit {0}

abbrev KnownReading : qdimacs.Reading → Type 0
KnownReading (reads s) = Unit {0}
KnownReading (faulty k at) = Known k

either : (b : Bool) (x y : Move) → KnownMove x → KnownMove y → KnownMove (cond b x y)
either true x y h k = h
either false x y h k = k

p-known : (w : Word) → KnownMove (on_p w)
unfolding on_p
p-known P = tt
p-known Cnf = known-syntax
p-known E = known-syntax
p-known A = known-syntax
p-known (Plain n) = known-syntax
p-known (Minus n) = known-syntax
p-known Other = known-syntax

cnf-known : (w : Word) → KnownMove (on_cnf w)
unfolding on_cnf
cnf-known P = known-syntax
cnf-known Cnf = tt
cnf-known E = known-syntax
cnf-known A = known-syntax
cnf-known (Plain n) = known-syntax
cnf-known (Minus n) = known-syntax
cnf-known Other = known-syntax

m-known : (x : Option ℕ) → KnownMove (on_m x)
unfolding on_m
m-known none = known-syntax
m-known (some n) = either (ltb max_variables n) (Fault TOO-BIG) (SetM n) known-big tt

c-known : (x : Option ℕ) → KnownMove (on_c x)
unfolding on_c
c-known none = known-syntax
c-known (some n) = either (ltb max_clauses n) (Fault TOO-BIG) (SetC n) known-big tt

variable-known : (q m : ℕ) (b : Bool) (z : Move) → KnownMove z → (x : Option ℕ) → KnownMove (on_variable q m b z x)
unfolding on_variable
variable-known q m b z h none = known-syntax
variable-known q m b z h (some v) = either (eqb v 0) z _ h (either (ltb m v) (Fault RANGE) _ known-range (either b (Fault TWICE) _ known_twice tt))

literal-known : (m : ℕ) (b : Bool) (x : Option ℕ) → KnownMove (on_literal m b x)
unfolding on_literal
literal-known m b none = known-syntax
literal-known m b (some l) = either (eqb l 0) Close _ tt (either (ltb m (var l)) (Fault RANGE) _ known-range (either b (Literal l) (Fault UNBOUND) tt known-unbound))

line_known : (m c : ℕ) (b : Bool) (w : Word) → KnownMove (on_line m c b w)
unfolding on_line
line_known m c b P = either (eqb c 0) (Fault COUNT) (Fault SYNTAX) known-count known-syntax
line_known m c b Cnf = either (eqb c 0) (Fault COUNT) (Fault SYNTAX) known-count known-syntax
line_known m c b E = tt
line_known m c b A = tt
line_known m c b (Plain n) = either (eqb c 0) (Fault COUNT) _ known-count (literal-known m b (some (plain n)))
line_known m c b (Minus n) = either (eqb c 0) (Fault COUNT) _ known-count (literal-known m b (some (negated n)))
line_known m c b Other = either (eqb c 0) (Fault COUNT) (Fault SYNTAX) known-count known-syntax

decide-known : (ph : Phase) (m c : ℕ) (b : Bool) (w : Word) → KnownMove (decide ph m c b w)
unfolding decide
decide-known AtP m c b w = p-known w
decide-known AtCnf m c b w = cnf-known w
decide-known AtM m c b w = m-known (plain_of w)
decide-known AtC m c b w = c-known (plain_of w)
decide-known Line m c b w = line_known m c b w
decide-known (Open q) m c b w = variable-known q m b (Fault RANGE) known-range (plain_of w)
decide-known (Vars q) m c b w = variable-known q m b (Go Line) tt (plain_of w)
decide-known Clause m c b w = literal-known m b (literal_of w)
decide-known Full m c b w = known-count

act-known : (s : State) (at : ℕ) (mv : Move) → KnownMove mv → KnownReading (act s at mv)
unfolding act closing
act-known s at (Fault k) h = h
act-known s at (Go ph) h = tt
act-known s at (SetM n) h = tt
act-known s at (SetC n) h = tt
act-known s at (Entry e) h = tt
act-known s at (Literal l) h = tt
act-known s at Close h = go (passes_literals s.prefix (s.clauses ++ (s.pending ∷ [])))
  where
    go : (b : Bool) → KnownReading (cond b (faulty TOO-BIG at) (reads (closing s)))
    go true = known-big
    go false = tt

tokens-known : (ts : List Token) (r : qdimacs.Reading) → KnownReading r → KnownReading (on_tokens r ts)
unfolding on_tokens on_token move_of
tokens-known [] r h = h
tokens-known (t ∷ ts) (faulty k at) h = h
tokens-known (t ∷ ts) (reads s) h = tokens-known ts (on_token s t) (act-known s t.at _ (decide-known s.phase s.m s.c _ (word_of t.bytes)))

-- what is given for a text
abbrev KnownAnswer : qdimacs.Answer → Type 0
KnownAnswer (fault k at) = Known k
KnownAnswer (good φ) = Unit {0}

finish-known : (n : ℕ) (r : qdimacs.Reading) → KnownReading r → KnownAnswer (tidied_answer (finish n r))
unfolding finish tidied_answer
finish-known n (faulty k at) h = h
finish-known n (reads s) h = go (complete s.phase s.c)
  where
    go : (b : Bool) → KnownAnswer (tidied_answer (cond b (good (record { prefix = s.prefix; clauses = s.clauses })) (fault SHORT n)))
    go true = tt
    go false = known-short

-- a text that is not too long is refused with one of these numbers, and the answer has it
pub fault-known : (text : List ℕ) → length text ≤ max_text → (k at : ℕ) → read text ≡ fault k at → Known k
unfolding read as_written
fault-known text l k at h =
    let x : qdimacs.Reading = on_tokens (reads start) (tokens text) in
    let e : read text ≡ tidied_answer (finish (length text) x) = rw (le-ltb max_text (length text) l) in
    subst KnownAnswer (sym e ∙ h) (finish-known (length text) x (tokens-known (tokens text) (reads start) tt))
