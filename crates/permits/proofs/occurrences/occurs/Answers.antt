-- The loop's invariant: the clauses that are left decide whether the literal occurs.
-- Assumes nothing.
use mathlib.Core.Path.{refl, sym, ap, ◌∙◌}
use mathlib.Core.List.{[]}
use native.Mathlib.Omega.{arith}
use Rattle.meaning.specs.Lists.{has}
use Rattle.table.proofs.HoldLaws.{count-clauses}
use Rattle.table.proofs.LoopLaws.{any_found, any-turn, any-end}
use Rattle.rules.specs.Simplify.{occurs}
use borrow.Author.Rules.{rules}
use Rattle.permits.proofs.occurrences.occurs.Goals as goal

pub loop-i-init : goal.loop-i-init
loop-i-init c = (search rules, λ φ h. refl)

pub clause_at-requires-clause-held : goal.clause_at-requires-clause-held
clause_at-requires-clause-held c = c.requires

pub clause_at-requires-clause-i_lt_clauses : goal.clause_at-requires-clause-i_lt_clauses
clause_at-requires-clause-i_lt_clauses c = (omega arith)

pub returns-then-contains : goal.returns-then-contains
unfolding occurs
returns-then-contains c = λ φ h. any_found (has _) [] φ.clauses c.loop-i.i (c.loop-i.invariant.1 φ h) (omega (arith, count-clauses h)) (ap (has _) (sym (c.clause_at.ensures φ h)) ∙ sym c.contains.ensures ∙ c.if-contains.true)

pub loop-i-preserved : goal.loop-i-preserved
loop-i-preserved c = (search rules, λ φ h. any-turn (has _) [] φ.clauses c.loop-i.i (c.loop-i.invariant.1 φ h) (omega (arith, count-clauses h)) (ap (has _) (sym (c.clause_at.ensures φ h)) ∙ sym c.contains.ensures ∙ c.if-contains.false))

pub returns : goal.returns
unfolding occurs
returns c = λ φ h. any-end (has _) [] φ.clauses c.loop-i.i (c.loop-i.invariant.1 φ h) (omega (arith, count-clauses h))
