-- The first limit that a result passes, by its counts: the variables need n numbers.
-- Assumes nothing.
use Prim.Native.Nat.{ℕ, ◌≤◌, ◌<◌}
use mathlib.Core.Path.{◌≡◌, refl, sym, ap, ◌∙◌}
use mathlib.Core.Bool.{Bool, true, false, ◌&&◌, not, cond}
use lib.Dec.{leb}
use borrow.Author.Tests.{le-leb, lt-leb}
use Rattle.meaning.specs.Formula.{Formula}
use Rattle.table.specs.Table.{counts_of}
use Rattle.table.specs.declared.Counts.{Counts}
use Rattle.reasons.specs.Reason.{of_variables, of_clauses, of_literals, within, first_limit}
use Rattle.reasons.proofs.Limits.{fits-is}
use Rattle.reasoning.specs.Whys.{limit_as, limit_or}
use Rattle.reasoning.specs.declared.Why.TheVariants.{OwnEntry, OverVariables, OverClauses, OverLiterals}

-- by the three tests
by_tests : (ψ : Formula) (e : ℕ) (a b c : Bool) → within of_variables ψ ≡ a → within of_clauses ψ ≡ b → within of_literals ψ ≡ c
    → limit_or ψ e ≡ cond (a && (b && c)) (OwnEntry e) (limit_as (cond (not a) of_variables (cond (not b) of_clauses of_literals)))
unfolding limit_or first_limit
by_tests ψ e a b c x y z = rw (fits-is ψ, x, y, z)

module _ (ψ : Formula) (d : Counts) (is : d ≡ counts_of ψ d.second) (n : ℕ) (numbers : within of_variables ψ ≡ leb n 1023) (e : ℕ) where
  clauses-by : within of_clauses ψ ≡ leb d.clauses 2047
  unfolding within counts_of
  clauses-by = ap (λ (c : Counts). leb c.clauses 2047) (sym is)

  literals-by : within of_literals ψ ≡ leb d.literals 8191
  unfolding within counts_of
  literals-by = ap (λ (c : Counts). leb c.literals 8191) (sym is)

  pub over-variables : 1023 < n → OverVariables ≡ limit_or ψ e
  unfolding limit_as
  over-variables h = sym (by_tests ψ e false _ _ (numbers ∙ lt-leb n 1023 h) refl refl)

  module _ (h : n ≤ 1023) where
    pub over-clauses : 2047 < d.clauses → OverClauses ≡ limit_or ψ e
    unfolding limit_as
    over-clauses k = sym (by_tests ψ e true false _ (numbers ∙ le-leb n 1023 h) (clauses-by ∙ lt-leb d.clauses 2047 k) refl)

    module _ (k : d.clauses ≤ 2047) where
      pub over-literals : 8191 < d.literals → OverLiterals ≡ limit_or ψ e
      unfolding limit_as
      over-literals l =
          sym (by_tests ψ e true true false (numbers ∙ le-leb n 1023 h) (clauses-by ∙ le-leb d.clauses 2047 k) (literals-by ∙ lt-leb d.literals 8191 l))

      pub over_none : d.literals ≤ 8191 → OwnEntry e ≡ limit_or ψ e
      over_none l =
          sym (by_tests ψ e true true true (numbers ∙ le-leb n 1023 h) (clauses-by ∙ le-leb d.clauses 2047 k) (literals-by ∙ le-leb d.literals 8191 l))
