-- The loop's invariant: the copies that are left make the whole.
-- Assumes nothing.
use Prim.Native.Nat.{◌+◌, ◌-◌}
use mathlib.Core.Path.{refl, ◌∙◌}
use native.Mathlib.Omega.{arith}
use native.Mathlib.Numerals.{add-one}
use Rattle.table.proofs.HoldLaws.{bounds, held}
use Rattle.rebuilds.proofs.BuildLaws.{built-done}
use Rattle.expanding.proofs.CopyLaws.{copying-start, copying-next, copying-full, copying-end}
use Rattle.expanding.proofs.copies.push_copies.Goals as goal

pub overflow_add-enough : goal.overflow_add-enough
overflow_add-enough c = let b = bounds c.requires.held in omega (arith, c.requires.readied.2)

pub loop-v-init : goal.loop-v-init
loop-v-init c = (omega arith, c.requires.readied.1, c.requires.readied.2, c.requires.readied.0, refl, c.requires.held, λ p ψ r l h. copying-start p h _ _ _ _ l refl (omega arith))

pub returns-in_err-e : goal.returns-in_err-e
returns-in_err-e c = rw c.from_residual.ensures (λ p ψ r q h. let g = c.loop-v.invariant.6 p ψ r q h in copying-full p ψ _ _ _ _ _ _ _ g (c.args.k + c.args.n - c.loop-v.v) (c.loop-v.v + 1) (omega (arith, c.loop-v-test.true)) (add-one _) _ _ (c.add_copy.ensures p g.formula r g.holds) c.in_err-e.was)

pub loop-v-preserved : goal.loop-v-preserved
loop-v-preserved c = (
  omega (arith, c.loop-v-test.true),
  c.loop-v.invariant.1,
  c.loop-v.invariant.2,
  c.loop-v.invariant.3,
  c.add_copy.auto.target ∙ c.loop-v.invariant.4,
  held (built-done _ _ _ _ (c.add_copy.ensures c.loop-v.invariant.3.prefix c.loop-v.invariant.5.formula c.loop-v.invariant.3.ready c.loop-v.invariant.5.holds) _ c.in_ok-e.was),
  λ p ψ r q h. let g = c.loop-v.invariant.6 p ψ r q h in copying-next p ψ _ _ _ _ _ _ _ g _ _ (omega (arith, c.loop-v-test.true)) (add-one _) _ _ (c.add_copy.ensures p g.formula r g.holds) _ c.in_ok-e.was,
)

-- the last one
pub returns-in_ok-e : goal.returns-in_ok-e
returns-in_ok-e c = λ p ψ r q h. let g = c.loop-v.invariant.6 p ψ r q h in copying-end p ψ _ _ _ _ _ _ _ (copying-next p ψ _ _ _ _ _ _ _ g 0 (c.loop-v.v + 1) (omega (arith, c.loop-v-test.true)) (add-one _) _ _ (c.add_copy.ensures p g.formula r g.holds) _ c.in_ok-e.was) (omega arith)

pub returns : goal.returns
returns c = λ p ψ r q h. copying-end p ψ _ _ _ _ _ _ _ (c.loop-v.invariant.6 p ψ r q h) (omega (arith, c.loop-v-test.false))
