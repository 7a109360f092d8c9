use Rattle.qdimacs.specs.Decide.{on_line}
use Rattle.scan.proofs.Arms.{not-letter}
use mathlib.Core.Path.{sym, ◌∙◌}
use borrow.Author.Tests.{eq-eqb, ne_eqb}
use Rattle.scan.proofs.moves.on_line.Goals as goal

pub returns-in-E : goal.returns-in-E
unfolding on_line
returns-in-E c = rw c.in-E.is

pub returns-in-A : goal.returns-in-A
unfolding on_line
returns-in-A c = rw c.in-A.is

pub returns-then-c-eq0 : goal.returns-then-c-eq0
returns-then-c-eq0 c = sym (not-letter _ _ _ _ c.in_default.not-E c.in_default.not-A ∙ rw (eq-eqb _ _ c.if-c-eq0.true))

pub returns-else-c-eq0 : goal.returns-else-c-eq0
returns-else-c-eq0 c = c.on_literal.ensures ∙ sym (not-letter _ _ _ _ c.in_default.not-E c.in_default.not-A ∙ rw (ne_eqb _ _ c.if-c-eq0.false))
