-- The loop's invariant: what is left of both clauses decides.
-- Assumes nothing.
use mathlib.Core.Path.{◌∙◌}
use native.Mathlib.Omega.{arith}
use Rattle.walks.specs.Walks.{some_strengthens}
use Rattle.walks.proofs.WalkLaws.{ahead-start, strong-end-x, strong-over, strong-both, strong-one, strong-fails, strong-universal, strong-rest}
use Rattle.walks.proofs.strengthens_part.Goals as goal

pub loop-j-init : goal.loop-j-init
loop-j-init c = (omega arith, λ p up too. ahead-start (some_strengthens p) _ _ up too)

pub returns-then-x-i : goal.returns-then-x-i
returns-then-x-i c = λ p q g up too. strong-end-x p c.loop-j.i c.loop-j.j (c.loop-j.invariant.1 p up too) c.if-x-i.true

pub loop-j-preserved-then-l-k : goal.loop-j-preserved-then-l-k
loop-j-preserved-then-l-k c = (omega arith, λ p up too. strong-both p c.loop-j.i c.loop-j.j (c.loop-j.invariant.1 p up too) c.if-x-i.false (omega arith) c.if-l-k.true)

pub loop-j-preserved : goal.loop-j-preserved
loop-j-preserved c = (omega arith, λ p up too. strong-one p c.loop-j.i c.loop-j.j (c.loop-j.invariant.1 p up too) c.if-x-i.false (omega arith) c.if-k-v.true)

pub returns-then-v-k : goal.returns-then-v-k
returns-then-v-k c = λ p q g up too. strong-fails p c.loop-j.i c.loop-j.j (c.loop-j.invariant.1 p up too) c.if-x-i.false (omega arith) c.if-v-k.true

pub overflow_cast-v : goal.overflow_cast-v
overflow_cast-v c = omega (arith, c.type_inv.x c.loop-j.i)

pub returns-then-is_existential : goal.returns-then-is_existential
returns-then-is_existential c =
    λ p q g up too. strong-rest p c.loop-j.i c.loop-j.j (c.loop-j.invariant.1 p up too) c.if-x-i.false (omega arith)
    c.if-l-k.false c.if-k-v.false c.if-v-k.false _ (c.is_existential.ensures p q g) c.if-is_existential.true _ c.is_part.ensures

pub returns-else-is_existential : goal.returns-else-is_existential
returns-else-is_existential c =
    λ p q g up too. c.if-is_existential.false ∙ strong-universal p c.loop-j.i c.loop-j.j (c.loop-j.invariant.1 p up too) c.if-x-i.false (omega arith)
    c.if-l-k.false c.if-k-v.false c.if-v-k.false _ (c.is_existential.ensures p q g) c.if-is_existential.false

pub returns : goal.returns
returns c = λ p q g up too. strong-over p c.loop-j.i c.loop-j.j (c.loop-j.invariant.1 p up too) (omega arith)
