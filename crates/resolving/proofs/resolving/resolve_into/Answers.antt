-- The clauses without the variable, then the resolvents.
-- Assumes nothing.
use mathlib.Core.Path.{refl}
use native.Mathlib.Omega.{arith}
use Rattle.recipes.specs.Left.{about}
use Rattle.table.proofs.HoldLaws.{held}
use Rattle.rebuilds.proofs.BuildLaws.{built-done}
use Rattle.rebuilds.proofs.GivenLaws.{begun-well}
use Rattle.resolving.proofs.ResolveLaws.{phases-of, resolve-well, resolve-never, resolve-full, resolve-done}
use Rattle.resolving.proofs.resolving.resolve_into.Goals as goal

pub returns-then-a-gt-VARIABLES : goal.returns-then-a-gt-VARIABLES
returns-then-a-gt-VARIABLES c = λ φ g p. resolve-never g _ p c.if-a-gt-VARIABLES.true

pub rebuild-requires-clause-c_value : goal.rebuild-requires-clause-c_value
rebuild-requires-clause-c_value c = (begun-well c.requires, (unfold about in refl))

pub add_resolvents-requires-clause-held_target : goal.add_resolvents-requires-clause-held_target
add_resolvents-requires-clause-held_target c = held (built-done _ _ _ _ (c.rebuild.ensures.built c.requires.formula c.requires.given.holds) _ c.in_ok-d.was)

pub add_resolvents-requires-clause-c_value : goal.add_resolvents-requires-clause-c_value
add_resolvents-requires-clause-c_value c = (resolve-well c.requires.given, phases-of _ (omega (arith, c.if-a-gt-VARIABLES.false)))

pub returns : goal.returns
returns c = λ φ g p. let h = c.rebuild.ensures.built φ g.holds in resolve-done g _ _ _ _ h _ c.in_ok-d.was _ _ (c.add_resolvents.ensures φ _ g.holds (built-done _ _ _ _ h _ c.in_ok-d.was))

pub returns-in_err-d : goal.returns-in_err-d
returns-in_err-d c = rw c.from_residual.ensures (λ φ g p. resolve-full g _ _ _ _ (c.rebuild.ensures.built φ g.holds) c.in_err-d.was _)
