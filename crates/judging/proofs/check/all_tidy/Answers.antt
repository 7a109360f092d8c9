-- The loop's invariant: the clauses that are left decide.
-- Assumes nothing.
use mathlib.Core.Path.{refl, sym, ap, ◌∙◌}
use mathlib.Core.List.{[]}
use native.Mathlib.Omega.{arith}
use Rattle.meaning.specs.WellFormed.{tidy_clause}
use Rattle.table.proofs.HoldLaws.{count-clauses}
use Rattle.table.proofs.LoopLaws.{all-fails, all-turn, all_end}
use Rattle.judging.proofs.check.all_tidy.Goals as goal

pub loop-i-init : goal.loop-i-init
loop-i-init c = λ φ h g e. refl

pub clause_at-requires-clause-held : goal.clause_at-requires-clause-held
clause_at-requires-clause-held c = c.requires

pub clause_at-requires-clause-i_lt_clauses : goal.clause_at-requires-clause-i_lt_clauses
clause_at-requires-clause-i_lt_clauses c = c.loop-i-test.true

pub loop-i-preserved : goal.loop-i-preserved
loop-i-preserved c = λ φ h g e. all-turn (tidy_clause φ.prefix) [] φ.clauses c.loop-i.i (c.loop-i.invariant φ h g e) (omega (arith, count-clauses h)) (ap (tidy_clause φ.prefix) (sym (c.clause_at.ensures φ h)) ∙ sym (c.is_tidy.ensures φ.prefix g e) ∙ c.if-not-is_tidy.false)

pub returns-then-not-is_tidy : goal.returns-then-not-is_tidy
returns-then-not-is_tidy c = λ φ h g e. all-fails (tidy_clause φ.prefix) [] φ.clauses c.loop-i.i (c.loop-i.invariant φ h g e) (omega (arith, count-clauses h)) (ap (tidy_clause φ.prefix) (sym (c.clause_at.ensures φ h)) ∙ sym (c.is_tidy.ensures φ.prefix g e) ∙ c.if-not-is_tidy.true)

pub returns : goal.returns
returns c = λ φ h g e. all_end (tidy_clause φ.prefix) [] φ.clauses c.loop-i.i (c.loop-i.invariant φ h g e) (omega (arith, count-clauses h))
