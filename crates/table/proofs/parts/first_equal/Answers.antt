-- The loop's invariant: of the first clauses, those that are left decide whether an equal one is there.
-- Assumes nothing.
use mathlib.Core.Path.{refl, sym, ap, ◌∙◌}
use mathlib.Core.List.{[]}
use native.Mathlib.Omega.{arith}
use borrow.Author.Tests.{lt-ltb, le-ltb}
use Rattle.table.proofs.HoldLaws.{count-clauses}
use Rattle.meaning.specs.Lists.{same}
use Rattle.table.proofs.LoopLaws.{first_found, first-turn, first-end}
use Rattle.table.proofs.parts.first_equal.Goals as goal

pub loop-i-init : goal.loop-i-init
loop-i-init c = λ φ h. refl

pub clause_at-requires-clause-held : goal.clause_at-requires-clause-held
clause_at-requires-clause-held c = c.requires.held

pub clause_at-requires-clause-i_lt_clauses : goal.clause_at-requires-clause-i_lt_clauses
clause_at-requires-clause-i_lt_clauses c = omega (arith, c.requires.until_le_clauses, c.loop-i-test.true)

pub returns-then-equal-clause-until_value : goal.returns-then-equal-clause-until_value
returns-then-equal-clause-until_value c = λ φ h. lt-ltb _ _ c.loop-i-test.true ∙ first_found (same _) [] φ.clauses c.args.until (omega (arith, c.requires.until_le_clauses, count-clauses h)) c.loop-i.i (c.loop-i.invariant φ h) c.loop-i-test.true (ap (same _) (sym (c.clause_at.ensures φ h)) ∙ sym c.equal.ensures ∙ c.if-equal.true)

pub loop-i-preserved : goal.loop-i-preserved
loop-i-preserved c = λ φ h. first-turn (same _) [] φ.clauses c.args.until (omega (arith, c.requires.until_le_clauses, count-clauses h)) c.loop-i.i (c.loop-i.invariant φ h) c.loop-i-test.true (ap (same _) (sym (c.clause_at.ensures φ h)) ∙ sym c.equal.ensures ∙ c.if-equal.false)

pub returns-clause-until_value : goal.returns-clause-until_value
returns-clause-until_value c = λ φ h. le-ltb c.args.until c.args.until (omega arith) ∙ first-end (same _) [] φ.clauses c.args.until (omega (arith, c.requires.until_le_clauses, count-clauses h)) c.loop-i.i (c.loop-i.invariant φ h) c.loop-i-test.false
