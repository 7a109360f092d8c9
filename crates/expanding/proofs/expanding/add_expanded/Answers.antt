-- One recipe, then the two halves.
-- Assumes nothing.
use mathlib.Core.Path.{refl}
use Rattle.table.proofs.HoldLaws.{held}
use Rattle.recipes.specs.Left.{about}
use Rattle.rebuilds.proofs.BuildLaws.{built-done}
use Rattle.rebuilds.proofs.RawLaws.{ready-after, shrunk-after}
use Rattle.expanding.proofs.ExpandLaws.{expanded-full, expanded-done}
use Rattle.expanding.proofs.expanding.add_expanded.Goals as goal

pub add_all-requires-clause-shrunk : goal.add_all-requires-clause-shrunk
add_all-requires-clause-shrunk c = (c.requires.shrunk, unfold about in refl)

pub add_halves-requires-clause-held_target : goal.add_halves-requires-clause-held_target
add_halves-requires-clause-held_target c =
    let b = c.add_all.ensures c.requires.held.formula c.requires.held_target.formula c.requires.held.holds c.requires.held_target.holds in
    let h = built-done _ _ _ _ b _ c.in_ok-e.was in
    held h

pub add_halves-requires-clause-ready : goal.add_halves-requires-clause-ready
add_halves-requires-clause-ready c =
    let b = c.add_all.ensures c.requires.held.formula c.requires.held_target.formula c.requires.held.holds c.requires.held_target.holds in
    let ready = ready-after c.requires.held_target.holds c.requires.ready _ _ _ _ b _ c.in_ok-e.was in
    ready

pub add_halves-requires-clause-shrunk : goal.add_halves-requires-clause-shrunk
add_halves-requires-clause-shrunk c =
    let b = c.add_all.ensures c.requires.held.formula c.requires.held_target.formula c.requires.held.holds c.requires.held_target.holds in
    let shrunk = shrunk-after c.requires.held_target.holds c.requires.shrunk _ _ _ _ b _ c.in_ok-e.was in
    shrunk

pub returns : goal.returns
returns c =
    λ φ ψ h i. let b = c.add_all.ensures φ ψ h i in
    expanded-done _ _ _ ψ φ.clauses _ _ _ b _ c.in_ok-e.was _ _ (c.add_halves.ensures φ _ h (built-done _ _ _ _ b _ c.in_ok-e.was))

pub returns-in_err-e : goal.returns-in_err-e
returns-in_err-e c = rw c.from_residual.ensures (λ φ ψ h i. expanded-full _ _ _ ψ φ.clauses _ _ _ (c.add_all.ensures φ ψ h i) c.in_err-e.was _)
