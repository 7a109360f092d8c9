-- What a token does, by the phase that it is read in (document 01, "Reading and writing"). "At one token the order is: after C
-- clauses any token is COUNT; else SYNTAX; TOO BIG for M or C; RANGE; TWICE; UNBOUND": the order of the tests here.
-- Assumes nothing.
use Rattle.std.specs.Prelude.{Bool, cond, ℕ, ◌+◌, ◌*◌, ltb, eqb}
use Rattle.std.proofs.Math.Option.{Option, none, some}
use Rattle.meaning.specs.Formula.{plain, negated, var}
use Rattle.meaning.specs.WellFormed.{max_variables, max_clauses}
use Rattle.qdimacs.specs.Faults.{SYNTAX, RANGE, TWICE, UNBOUND, COUNT, TOO-BIG}
use Rattle.qdimacs.specs.Words.{plain_of, literal_of}
use Rattle.qdimacs.specs.declared.Word.{Word}
use Rattle.qdimacs.specs.declared.Word.TheVariants.{P, Cnf, E, A, Plain, Minus, Other}
use Rattle.qdimacs.specs.declared.Phase.{Phase}
use Rattle.qdimacs.specs.declared.Phase.TheVariants.{AtP, AtCnf, AtM, AtC, Line, Open, Vars, Clause, Full}
use Rattle.qdimacs.specs.declared.Move.{Move}
use Rattle.qdimacs.specs.declared.Move.TheVariants.{Fault, Go, SetM, SetC, Entry, Literal, Close}

-- "Then `p cnf M C`"
unfoldable pub on_p : Word → Move
on_p P = Go AtCnf
on_p Cnf = Fault SYNTAX
on_p E = Fault SYNTAX
on_p A = Fault SYNTAX
on_p (Plain n) = Fault SYNTAX
on_p (Minus n) = Fault SYNTAX
on_p Other = Fault SYNTAX

unfoldable pub on_cnf : Word → Move
on_cnf P = Fault SYNTAX
on_cnf Cnf = Go AtM
on_cnf E = Fault SYNTAX
on_cnf A = Fault SYNTAX
on_cnf (Plain n) = Fault SYNTAX
on_cnf (Minus n) = Fault SYNTAX
on_cnf Other = Fault SYNTAX

-- "TOO BIG for M over 1,023 or C over 2,047"
unfoldable pub on_m : Option ℕ → Move
on_m none = Fault SYNTAX
on_m (some n) = cond (ltb max_variables n) (Fault TOO-BIG) (SetM n)

unfoldable pub on_c : Option ℕ → Move
on_c none = Fault SYNTAX
on_c (some n) = cond (ltb max_clauses n) (Fault TOO-BIG) (SetC n)

-- "RANGE for a variable 0 in a wrong place or over M; TWICE for a variable quantified before": a variable of a quantifier
-- line. q is 0 for `e` and 1 for `a`; `seen` says whether the variable is in the prefix; `ending` is what a 0 does.
unfoldable pub on_variable : ℕ → ℕ → Bool → Move → Option ℕ → Move
on_variable q m seen ending none = Fault SYNTAX
on_variable q m seen ending (some v) =
    cond (eqb v 0) ending
    (cond (ltb m v) (Fault RANGE)
    (cond seen (Fault TWICE)
    (Entry (2 * v + q))))

-- "UNBOUND for a clause's variable in no quantifier line": a number of a clause, as a literal
unfoldable pub on_literal : ℕ → Bool → Option ℕ → Move
on_literal m seen none = Fault SYNTAX
on_literal m seen (some l) =
    cond (eqb l 0) Close
    (cond (ltb m (var l)) (Fault RANGE)
    (cond seen (Literal l)
    (Fault UNBOUND)))

-- "with C = 0, any token but `e` or `a` where a quantifier line could start" is COUNT
unfoldable pub on_line : ℕ → ℕ → Bool → Word → Move
on_line m c seen E = Go (Open 0)
on_line m c seen A = Go (Open 1)
on_line m c seen P = cond (eqb c 0) (Fault COUNT) (Fault SYNTAX)
on_line m c seen Cnf = cond (eqb c 0) (Fault COUNT) (Fault SYNTAX)
on_line m c seen (Plain n) = cond (eqb c 0) (Fault COUNT) (on_literal m seen (some (plain n)))
on_line m c seen (Minus n) = cond (eqb c 0) (Fault COUNT) (on_literal m seen (some (negated n)))
on_line m c seen Other = cond (eqb c 0) (Fault COUNT) (Fault SYNTAX)

-- the phase, M, C, whether the word's variable is in the prefix, the word. "Zero closes a clause or a non-empty quantifier
-- line; in an empty quantifier line it is RANGE."
unfoldable pub decide : Phase → ℕ → ℕ → Bool → Word → Move
decide AtP m c seen w = on_p w
decide AtCnf m c seen w = on_cnf w
decide AtM m c seen w = on_m (plain_of w)
decide AtC m c seen w = on_c (plain_of w)
decide Line m c seen w = on_line m c seen w
decide (Open q) m c seen w = on_variable q m seen (Fault RANGE) (plain_of w)
decide (Vars q) m c seen w = on_variable q m seen (Go Line) (plain_of w)
decide Clause m c seen w = on_literal m seen (literal_of w)
decide Full m c seen w = Fault COUNT
