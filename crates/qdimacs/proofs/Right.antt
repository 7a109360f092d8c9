-- What holds of every state of reading: each variable once and at most M, each clause of the prefix's variables, within the
-- limits.
-- Assumes nothing.
use mathlib.Core.Path.{◌≡◌, refl, ap}
use mathlib.Core.Bool.{Bool, true, false, cond}
use mathlib.Core.List.{List, [], ◌∷◌, ◌++◌}
use mathlib.Core.Option.{Option, none, some}
use Prim.Native.Nat.{ℕ, ◌+◌, ◌*◌, ◌≤◌, ◌<◌}
use native.Mathlib.Omega.{arith}
use borrow.Author.Tests.{ltb-false, le-leb, eqb-false}
use lib.Dec.{leb, ltb, eqb}
use lib.ListN.{length, length-append}
use Rattle.meaning.specs.Lists.{all_of}
use Rattle.meaning.specs.Formula.{plain, negated, var, mentions}
use Rattle.meaning.specs.Tidy.{build, build_on}
use Rattle.meaning.specs.WellFormed.{bound, good_prefix, literals, max_variables, max_clauses, max_literals}
use Rattle.qdimacs.specs.Faults.{SYNTAX, RANGE, TWICE, UNBOUND, COUNT, TOO-BIG}
use Rattle.qdimacs.specs.Bytes.{Token}
use Rattle.qdimacs.specs.Words.{word_of, variable_of, plain_of, literal_of}
use Rattle.qdimacs.specs.Decide.{on_p, on_cnf, on_m, on_c, on_variable, on_literal, on_line, decide}
use Rattle.qdimacs.specs.Read.{State, Reading, reads, faulty, start, after_clause, passes_literals, act, move_of, on_token, on_tokens}
use Rattle.qdimacs.specs.declared.Word.{Word}
use Rattle.qdimacs.specs.declared.Word.TheVariants.{P, Cnf, E, A, Plain, Minus, Other}
use Rattle.qdimacs.specs.declared.Phase.{Phase}
use Rattle.qdimacs.specs.declared.Phase.TheVariants.{AtP, AtCnf, AtM, AtC, Line, Open, Vars, Clause, Full}
use Rattle.qdimacs.specs.declared.Move.{Move}
use Rattle.qdimacs.specs.declared.Move.TheVariants.{Fault, Go, SetM, SetC, Entry, Literal, Close}
use Rattle.meaning.proofs.Literals.{var-plain, var-negated}
use Rattle.meaning.proofs.Prefix.{good-snoc}
use Rattle.meaning.proofs.Lists.{all_snoc}

-- what is there in each phase
abbrev NoClause : State → Type 0
NoClause s = (s.clauses ≡ []) × (s.pending ≡ [])

abbrev Nothing : State → Type 0
Nothing s = (s.prefix ≡ []) × NoClause s

unfoldable pub Where : Phase → State → Type 0
Where AtP s = Nothing s
Where AtCnf s = Nothing s
Where AtM s = Nothing s
Where AtC s = NoClause s
Where Line s = NoClause s
Where (Open q) s = (q ≤ 1) × NoClause s
Where (Vars q) s = (q ≤ 1) × NoClause s
Where Clause s = length s.clauses < s.c
Where Full s = Unit {0}

-- what holds of a state
pub record Right (s : State) : Type 0 where
  pub small : s.m ≤ max_variables
  pub few : s.c ≤ max_clauses
  pub good : good_prefix s.prefix ≡ true
  pub numbers : all_of (λ q. leb (var q) s.m) s.prefix ≡ true
  pub closed : all_of (bound s.prefix) s.clauses ≡ true
  pub pending : bound s.prefix s.pending ≡ true
  pub clauses : length s.clauses ≤ max_clauses
  pub literals : literals (build s.prefix s.clauses) ≤ max_literals
  pub place : Where s.phase s

unfoldable pub RightSoFar : Reading → Type 0
RightSoFar (reads s) = Right s
RightSoFar (faulty k at) = Unit {0}

abbrev in_phase : Phase → State → State
in_phase ph s = record { phase = ph; m = s.m; c = s.c; prefix = s.prefix; clauses = s.clauses; pending = s.pending }

-- a word's number is of the variable that is looked up
plain-variable : (w : Word) (n : ℕ) → plain_of w ≡ some n → variable_of w ≡ n
unfolding plain_of variable_of
plain-variable P n e = cc
plain-variable Cnf n e = cc
plain-variable E n e = cc
plain-variable A n e = cc
plain-variable (Plain m) n e = cc
plain-variable (Minus m) n e = cc
plain-variable Other n e = cc

literal-variable : (w : Word) (l : ℕ) → literal_of w ≡ some l → variable_of w ≡ var l
unfolding literal_of variable_of
literal-variable P l e = cc
literal-variable Cnf l e = cc
literal-variable E l e = cc
literal-variable A l e = cc
literal-variable (Plain n) l e = unfold plain in cc (var-plain n)
literal-variable (Minus n) l e = unfold negated in cc (var-negated n)
literal-variable Other l e = cc

-- no clause, none to be closed
module _ (s : State) (k : NoClause s) (p : List ℕ) where
  none-closed : all_of (bound p) s.clauses ≡ true
  none-closed = unfold all_of in rw k.0

  none-pending : bound p s.pending ≡ true
  none-pending = unfold bound all_of in rw k.1

  none-literals : literals (build p s.clauses) ≤ max_literals
  none-literals = unfold build build_on literals in rw k.0 (omega arith)

-- after a closing 0: more clauses are to come, or none
after-where : (t : Bool) (s : State) → (t ≡ false → length s.clauses < s.c) → Where (cond t Full Clause) s
unfolding Where
after-where true s k = tt
after-where false s k = k refl

-- each move of a right state leads to a right state
module _ (s : State) (h : Right s) (at : ℕ) where
  go_right : (ph : Phase) → Where ph (in_phase ph s) → RightSoFar (act s at (Go ph))
  unfolding act RightSoFar
  go_right ph k =
      record { small = h.small; few = h.few; good = h.good; numbers = h.numbers; closed = h.closed; pending = h.pending; clauses = h.clauses; literals = h.literals; place = k }

  m-right : Nothing s → (x : Option ℕ) → RightSoFar (act s at (on_m x))
  unfolding act RightSoFar on_m Where
  m-right k none = tt
  m-right k (some n) = go (ltb max_variables n) refl
    where
      go : (t : Bool) → ltb max_variables n ≡ t → RightSoFar (act s at (cond t (Fault TOO-BIG) (SetM n)))
      go true e = tt
      go false e =
          record { small = ltb-false max_variables n e; few = h.few; good = h.good; numbers = unfold all_of in rw k.0; closed = h.closed; pending = h.pending; clauses = h.clauses; literals = h.literals; place = k.1 }

  c-right : NoClause s → (x : Option ℕ) → RightSoFar (act s at (on_c x))
  unfolding act RightSoFar on_c Where
  c-right k none = tt
  c-right k (some n) = go (ltb max_clauses n) refl
    where
      go : (t : Bool) → ltb max_clauses n ≡ t → RightSoFar (act s at (cond t (Fault TOO-BIG) (SetC n)))
      go true e = tt
      go false e =
          record { small = h.small; few = ltb-false max_clauses n e; good = h.good; numbers = h.numbers; closed = h.closed; pending = h.pending; clauses = h.clauses; literals = h.literals; place = k }

  -- an entry of a new variable
  entry-right : (q n : ℕ) → q ≤ 1 → NoClause s → 0 < n → n ≤ s.m → mentions s.prefix n ≡ false → RightSoFar (act s at (Entry (2 * n + q)))
  unfolding act RightSoFar Where
  entry-right q n ql k p le new =
      let v : var e ≡ n = unfold var in omega arith in
      record {
        small = h.small;
        few = h.few;
        good = good-snoc s.prefix e h.good (omega arith) (rw v new);
        numbers = all_snoc (λ q. leb (var q) s.m) s.prefix e h.numbers (le-leb (var e) s.m (omega arith));
        closed = none-closed s k (s.prefix ++ (e ∷ []));
        pending = none-pending s k (s.prefix ++ (e ∷ []));
        clauses = h.clauses;
        literals = none-literals s k (s.prefix ++ (e ∷ []));
        place = (omega arith, k);
      }
    where
      e : ℕ
      e = 2 * n + q

  -- in a quantifier line
  variable-right : (q : ℕ) (z : Move) (w : Word) → q ≤ 1 → NoClause s → RightSoFar (act s at z) → (x : Option ℕ) → plain_of w ≡ x
      → RightSoFar (act s at (on_variable q s.m (mentions s.prefix (variable_of w)) z x))
  unfolding act RightSoFar on_variable
  variable-right q z w ql k right none e = tt
  variable-right q z w ql k right (some n) e = go (eqb n 0) (ltb s.m n) (mentions s.prefix (variable_of w)) refl refl refl
    where
      go : (a b t : Bool) → eqb n 0 ≡ a → ltb s.m n ≡ b → mentions s.prefix (variable_of w) ≡ t
          → RightSoFar (act s at (cond a z (cond b (Fault RANGE) (cond t (Fault TWICE) (Entry (2 * n + q))))))
      go true b t x y u = right
      go false true t x y u = tt
      go false false true x y u = tt
      go false false false x y u = let nz = eqb-false n 0 x in entry-right q n ql k (omega arith) (ltb-false s.m n y) (rw (plain-variable w n e) at u)

  -- a literal of a variable of the prefix
  literal-right : (l : ℕ) → length s.clauses < s.c → mentions s.prefix (var l) ≡ true → RightSoFar (act s at (Literal l))
  unfolding act RightSoFar Where bound
  literal-right l k b =
      record {
        small = h.small;
        few = h.few;
        good = h.good;
        numbers = h.numbers;
        closed = h.closed;
        pending = all_snoc (λ l. mentions s.prefix (var l)) s.pending l h.pending b;
        clauses = h.clauses;
        literals = h.literals;
        place = k;
      }

  -- a closing 0
  close-right : length s.clauses < s.c → RightSoFar (act s at Close)
  unfolding act RightSoFar after_clause
  close-right k = go (passes_literals s.prefix more) refl
    where
      more : List (List ℕ)
      more = s.clauses ++ (s.pending ∷ [])

      next : State
      next = record { phase = after_clause (length s.clauses + 1) s.c; m = s.m; c = s.c; prefix = s.prefix; clauses = more; pending = [] }

      go : (t : Bool) → passes_literals s.prefix more ≡ t → RightSoFar (cond t (faulty TOO-BIG at) (reads next))
      go true e = tt
      go false e =
          let n : length more ≡ length s.clauses + 1 = length-append s.clauses (s.pending ∷ []) in
          record {
            small = h.small;
            few = h.few;
            good = h.good;
            numbers = h.numbers;
            closed = all_snoc (bound s.prefix) s.clauses s.pending h.closed h.pending;
            pending = unfold bound all_of in refl;
            clauses = let f = h.few in omega arith;
            literals = unfold passes_literals in let z = ltb-false _ (literals (build s.prefix more)) e in omega arith;
            place = after-where (eqb (length s.clauses + 1) s.c) next (λ e. let z = eqb-false (length s.clauses + 1) s.c e in omega arith);
          }

  -- a number of a clause
  number-right : (w : Word) → length s.clauses < s.c → (x : Option ℕ) → literal_of w ≡ x
      → RightSoFar (act s at (on_literal s.m (mentions s.prefix (variable_of w)) x))
  unfolding act RightSoFar on_literal
  number-right w k none e = tt
  number-right w k (some l) e = go (eqb l 0) (ltb s.m (var l)) (mentions s.prefix (variable_of w)) refl
    where
      go : (a b t : Bool) → mentions s.prefix (variable_of w) ≡ t
          → RightSoFar (act s at (cond a Close (cond b (Fault RANGE) (cond t (Literal l) (Fault UNBOUND)))))
      go true b t u = close-right k
      go false true t u = tt
      go false false true u = literal-right l k (rw (literal-variable w l e) at u)
      go false false false u = tt

  -- where a quantifier line could start: with C = 0 no number is taken
  counted : (m : Move) → (0 < s.c → RightSoFar (act s at m)) → RightSoFar (act s at (cond (eqb s.c 0) (Fault COUNT) m))
  counted m k = go (eqb s.c 0) refl
    where
      go : (t : Bool) → eqb s.c 0 ≡ t → RightSoFar (act s at (cond t (Fault COUNT) m))
      go true e = unfold act RightSoFar in tt
      go false e = let z = eqb-false s.c 0 e in k (omega arith)

  line-right : NoClause s → (w : Word) → RightSoFar (act s at (on_line s.m s.c (mentions s.prefix (variable_of w)) w))
  unfolding act RightSoFar on_line literal_of Where
  line-right k P = counted (Fault SYNTAX) (λ z. tt)
  line-right k Cnf = counted (Fault SYNTAX) (λ z. tt)
  line-right k E = go_right (Open 0) (omega arith, k)
  line-right k A = go_right (Open 1) (omega arith, k)
  line-right k (Plain n) = counted _ (λ z. number-right (Plain n) (omega (arith, ap length k.0)) (some (plain n)) refl)
  line-right k (Minus n) = counted _ (λ z. number-right (Minus n) (omega (arith, ap length k.0)) (some (negated n)) refl)
  line-right k Other = counted (Fault SYNTAX) (λ z. tt)

  p-right : Nothing s → (w : Word) → RightSoFar (act s at (on_p w))
  unfolding act RightSoFar on_p Where
  p-right k P = go_right AtCnf k
  p-right k Cnf = tt
  p-right k E = tt
  p-right k A = tt
  p-right k (Plain n) = tt
  p-right k (Minus n) = tt
  p-right k Other = tt

  cnf-right : Nothing s → (w : Word) → RightSoFar (act s at (on_cnf w))
  unfolding act RightSoFar on_cnf Where
  cnf-right k P = tt
  cnf-right k Cnf = go_right AtM k
  cnf-right k E = tt
  cnf-right k A = tt
  cnf-right k (Plain n) = tt
  cnf-right k (Minus n) = tt
  cnf-right k Other = tt

  decide-right : (ph : Phase) → Where ph s → (w : Word) → RightSoFar (act s at (decide ph s.m s.c (mentions s.prefix (variable_of w)) w))
  unfolding act RightSoFar decide Where
  decide-right AtP k w = p-right k w
  decide-right AtCnf k w = cnf-right k w
  decide-right AtM k w = m-right k (plain_of w)
  decide-right AtC k w = c-right k (plain_of w)
  decide-right Line k w = line-right k w
  decide-right (Open q) k w = variable-right q (Fault RANGE) w k.0 k.1 tt (plain_of w) refl
  decide-right (Vars q) k w = variable-right q (Go Line) w k.0 k.1 (go_right Line k.1) (plain_of w) refl
  decide-right Clause k w = number-right w k (literal_of w) refl
  decide-right Full k w = tt

tokens-right : (ts : List Token) (r : Reading) → RightSoFar r → RightSoFar (on_tokens r ts)
unfolding on_tokens on_token move_of RightSoFar
tokens-right [] r h = h
tokens-right (t ∷ ts) (faulty k at) h = tt
tokens-right (t ∷ ts) (reads s) h = tokens-right ts (on_token s t) (decide-right s h t.at s.phase h.place (word_of t.bytes))

start_right : Right start
unfolding start good_prefix all_of bound literals build build_on Where
start_right =
    record { small = omega arith; few = omega arith; good = refl; numbers = refl; closed = refl; pending = refl; clauses = omega arith; literals = omega arith; place = (refl, (refl, refl)) }

-- whatever the tokens
pub reading-right : (ts : List Token) → RightSoFar (on_tokens (reads start) ts)
unfolding RightSoFar
reading-right ts = tokens-right ts (reads start) start_right
