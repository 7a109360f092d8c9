-- The loop's invariant: the literals that are left decide.
-- Assumes nothing.
use mathlib.Core.Path.{refl, sym, ◌∙◌}
use native.Mathlib.Omega.{arith}
use Rattle.earlier.proofs.EarlierLaws.{lack-turn, lack-found, lack-end}
use Rattle.earlier.proofs.earlier.lacking.Goals as goal

pub loop-literal-init : goal.loop-literal-init
loop-literal-init c = refl

pub loop-literal-preserved : goal.loop-literal-preserved
loop-literal-preserved c = c.loop-literal.invariant ∙ lack-turn _ _ _ c.loop-literal.literal-index (omega arith) (sym c.contains.ensures ∙ c.if-not-contains.false)

pub returns-then-not-contains : goal.returns-then-not-contains
returns-then-not-contains c = sym (c.loop-literal.invariant ∙ lack-found _ _ _ c.loop-literal.literal-index (omega arith) (sym c.contains.ensures ∙ c.if-not-contains.true))

pub returns : goal.returns
returns c = sym (c.loop-literal.invariant ∙ lack-end _ _ _ c.loop-literal.literal-index (omega arith))
