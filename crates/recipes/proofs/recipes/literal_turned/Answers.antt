-- By the kind of turn.
-- Assumes nothing.
use borrow.Author.Tests.{eq-eqb, ne_eqb}
use Rattle.recipes.specs.Recipe.{turned}
use Rattle.recipes.proofs.recipes.literal_turned.Goals as goal

pub returns-then-i-b : goal.returns-then-i-b
unfolding turned
returns-then-i-b c = rw (c.in-DropAt.is, eq-eqb _ _ c.if-i-b.true) c.left_of-then-i-b.ensures

pub returns-then-literal-l : goal.returns-then-literal-l
unfolding turned
returns-then-literal-l c = rw (c.in-Copy.is, eq-eqb _ _ c.if-literal-l.true)

pub returns-in-Same : goal.returns-in-Same
unfolding turned
returns-in-Same c = rw c.in-Same.is

pub returns-in-Drop : goal.returns-in-Drop
unfolding turned
returns-in-Drop c = rw c.in-Drop.is c.left_of.ensures

pub returns-else-i-b : goal.returns-else-i-b
unfolding turned
returns-else-i-b c = rw (c.in-DropAt.is, ne_eqb _ _ c.if-i-b.false)

pub returns-in-Replace : goal.returns-in-Replace
unfolding turned
returns-in-Replace c = rw c.in-Replace.is c.replaced_in.ensures

pub returns-else-literal-l : goal.returns-else-literal-l
unfolding turned
returns-else-literal-l c = rw (c.in-Copy.is, ne_eqb _ _ c.if-literal-l.false) c.copied_in.ensures
