-- By whether a hint is right, and else by whether an equal clause is found. The clause itself stays in the scratch.
-- Assumes nothing.
use mathlib.Core.Path.{sym, ap, ◌∙◌}
use native.Mathlib.Omega.{arith}
use borrow.Author.Tests.{lt-ltb, le-ltb}
use Rattle.meaning.specs.Lists.{any_of, same}
use Rattle.table.proofs.HoldLaws.{bounds, clauses-all}
use Rattle.table.proofs.AnswerLaws.{add-there, add-new}
use Rattle.hints.proofs.add_hinted.Goals as goal

pub returns-then-is_right : goal.returns-then-is_right
returns-then-is_right c = λ φ h. add-there h _ (c.is_right.ensures.clause_value φ h c.if-is_right.true)

pub remember-requires-clause-at_in_bounds : goal.remember-requires-clause-at_in_bounds
remember-requires-clause-at_in_bounds c =
    let b = bounds c.requires.held in
    omega arith

pub remember-requires-clause-number_bound : goal.remember-requires-clause-number_bound
remember-requires-clause-number_bound c =
    let b = bounds c.requires.held in
    omega (arith, c.is_right-2.ensures.hint_lt_clauses c.if-is_right-2.true)

pub returns-then-is_right-2 : goal.returns-then-is_right-2
returns-then-is_right-2 c = λ φ h. add-there h _ (c.is_right-2.ensures.clause_value φ h c.if-is_right-2.true)

pub remember-requires-2-clause-at_in_bounds : goal.remember-requires-2-clause-at_in_bounds
remember-requires-2-clause-at_in_bounds c =
    let b = bounds c.requires.held in
    omega arith

pub remember-requires-2-clause-number_bound : goal.remember-requires-2-clause-number_bound
remember-requires-2-clause-number_bound c =
    let b = bounds c.requires.held in
    omega (arith, c.first_equal-k.ensures.upper_bound)

pub returns-then-k-c : goal.returns-then-k-c
returns-then-k-c c = λ φ h. add-there h _ (sym (c.first_equal-k.ensures.until_value φ h ∙ ap (any_of (same _)) (clauses-all h)) ∙ lt-ltb _ _ c.if-k-c.true)

pub returns : goal.returns
returns c = λ φ h. add-new h _ _ _ (sym (c.first_equal-k.ensures.until_value φ h ∙ ap (any_of (same _)) (clauses-all h)) ∙ le-ltb _ _ c.if-k-c.false) (rw c.remember-2.ensures at (c.push_clause.ensures φ h))
