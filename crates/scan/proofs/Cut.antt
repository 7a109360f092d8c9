-- A number that is cut off does what the number does: M, C and each variable are less than 2,048.
-- Assumes nothing.
use mathlib.Core.Path.{◌≡◌, refl, sym, ap, ◌∙◌}
use mathlib.Core.Bool.{Bool, cond}
use mathlib.Core.List.{List}
use mathlib.Core.Option.{some}
use Prim.Native.Nat.{ℕ, ◌≤◌}
use native.Mathlib.Omega.{arith}
use borrow.Author.Tests.{lt-ltb, ltb-true, ltb-false}
use lib.Dec.{ltb, eqb}
use Rattle.meaning.specs.Formula.{plain, negated, mentions}
use Rattle.meaning.specs.WellFormed.{max_variables, max_clauses}
use Rattle.qdimacs.specs.Faults.{RANGE, COUNT}
use Rattle.qdimacs.specs.Words.{variable_of, plain_of, literal_of}
use Rattle.qdimacs.specs.Decide.{on_p, on_cnf, on_m, on_c, on_variable, on_literal, on_line, decide}
use Rattle.qdimacs.specs.declared.Word.{Word}
use Rattle.qdimacs.specs.declared.Word.TheVariants.{P, Cnf, E, A, Plain, Minus, Other}
use Rattle.qdimacs.specs.declared.Phase.{Phase}
use Rattle.qdimacs.specs.declared.Phase.TheVariants.{AtP, AtCnf, AtM, AtC, Line, Open, Vars, Clause, Full}
use Rattle.qdimacs.specs.declared.Move.{Move}
use Rattle.qdimacs.specs.declared.Move.TheVariants.{Fault, Go}
use Rattle.scan.specs.Cut.{most, sat, sat_word}
use Rattle.meaning.proofs.Basics.{by_cases}
use Rattle.meaning.proofs.Literals.{var-of-plain, var-of-negated}
use Rattle.scan.proofs.Arms.{var-range, lit-range}

-- two numbers that are cut off do the same, whether or not a variable of theirs is in the prefix
module _ (m c : ℕ) (b d : Bool) (n k : ℕ) (h : m ≤ max_variables) (p : most ≤ n) (q : most ≤ k) where
  big-variable : (u : ℕ) (z : Move) → on_variable u m b z (some n) ≡ on_variable u m d z (some k)
  big-variable u z = sym (var-range u m b z n (omega arith) (omega arith)) ∙ var-range u m d z k (omega arith) (omega arith)

  big-number : on_literal m b (some (plain n)) ≡ on_literal m d (some (plain k))
  big-number = sym (lit-range m b (plain n) (rw (var-of-plain n) (omega arith))) ∙ lit-range m d (plain k) (rw (var-of-plain k) (omega arith))

  big-negated : on_literal m b (some (negated n)) ≡ on_literal m d (some (negated k))
  big-negated = sym (lit-range m b (negated n) (rw (var-of-negated n) (omega arith))) ∙ lit-range m d (negated k) (rw (var-of-negated k) (omega arith))

  big-plain : (ph : Phase) → decide ph m c b (Plain n) ≡ decide ph m c d (Plain k)
  unfolding decide on_p on_cnf on_m on_c on_line plain_of literal_of
  big-plain AtP = refl
  big-plain AtCnf = refl
  big-plain AtM = rw (lt-ltb max_variables n (omega arith), lt-ltb max_variables k (omega arith))
  big-plain AtC = rw (lt-ltb max_clauses n (omega arith), lt-ltb max_clauses k (omega arith))
  big-plain Line = ap (cond (eqb c 0) (Fault COUNT)) big-number
  big-plain (Open u) = big-variable u (Fault RANGE)
  big-plain (Vars u) = big-variable u (Go Line)
  big-plain Clause = big-number
  big-plain Full = refl

  big-minus : (ph : Phase) → decide ph m c b (Minus n) ≡ decide ph m c d (Minus k)
  unfolding decide on_p on_cnf on_m on_c on_variable on_line plain_of literal_of
  big-minus AtP = refl
  big-minus AtCnf = refl
  big-minus AtM = refl
  big-minus AtC = refl
  big-minus Line = ap (cond (eqb c 0) (Fault COUNT)) big-negated
  big-minus (Open u) = refl
  big-minus (Vars u) = refl
  big-minus Clause = big-negated
  big-minus Full = refl

module _ (ph : Phase) (m c : ℕ) (p : List ℕ) (h : m ≤ max_variables) where
  cut-number : (f : ℕ → Move) → ((n k : ℕ) → most ≤ n → most ≤ k → f n ≡ f k) → (n : ℕ) → f (sat n) ≡ f n
  cut-number f same n =
      by_cases (ltb n most)
      (λ e. let z : sat n ≡ n = omega (arith, ltb-true n most e) in rw z)
      (λ e. let l = ltb-false n most e in same (sat n) n (omega arith) l)

  pub sat-decide : (w : Word) → decide ph m c (mentions p (variable_of (sat_word w))) (sat_word w) ≡ decide ph m c (mentions p (variable_of w)) w
  unfolding sat_word variable_of
  sat-decide P = refl
  sat-decide Cnf = refl
  sat-decide E = refl
  sat-decide A = refl
  sat-decide (Plain n) = cut-number (λ n. decide ph m c (mentions p n) (Plain n)) (λ n k x y. big-plain m c (mentions p n) (mentions p k) n k h x y ph) n
  sat-decide (Minus n) = cut-number (λ n. decide ph m c (mentions p n) (Minus n)) (λ n k x y. big-minus m c (mentions p n) (mentions p k) n k h x y ph) n
  sat-decide Other = refl
