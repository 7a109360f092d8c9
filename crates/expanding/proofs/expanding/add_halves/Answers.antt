-- One recipe after another.
-- Assumes nothing.
use mathlib.Core.Path.{refl}
use Rattle.table.proofs.HoldLaws.{held}
use Rattle.recipes.specs.Left.{about}
use Rattle.rebuilds.proofs.BuildLaws.{built-done}
use Rattle.rebuilds.proofs.RawLaws.{ready-after, shrunk-after}
use Rattle.recipes.proofs.TurnLaws.{about-plain}
use Rattle.expanding.proofs.ExpandLaws.{halves-full, halves-done}
use Rattle.expanding.proofs.expanding.add_halves.Goals as goal

pub add_all-requires-clause-shrunk : goal.add_all-requires-clause-shrunk
add_all-requires-clause-shrunk c = (c.requires.shrunk, about-plain _)

pub add_all-requires-2 : goal.add_all-requires-2
add_all-requires-2 c =
    let b = c.add_all.ensures c.requires.held.formula c.requires.held_target.formula c.requires.held.holds c.requires.held_target.holds in
    let h = built-done _ _ _ _ b _ c.in_ok-e.was in
    let ready = ready-after c.requires.held_target.holds c.requires.ready _ _ _ _ b _ c.in_ok-e.was in
    let shrunk = shrunk-after c.requires.held_target.holds c.requires.shrunk _ _ _ _ b _ c.in_ok-e.was in
    record {
      held = c.requires.held;
      held_target = held h;
      ready = ready;
      shrunk = (shrunk, unfold about in refl);
    }

pub returns : goal.returns
returns c =
    λ φ ψ h i. let b = c.add_all.ensures φ ψ h i in
    halves-done _ _ _ ψ φ.clauses _ _ _ b _ c.in_ok-e.was _ _ (c.add_all-2.ensures φ _ h (built-done _ _ _ _ b _ c.in_ok-e.was))

pub returns-in_err-e : goal.returns-in_err-e
returns-in_err-e c = rw c.from_residual.ensures (λ φ ψ h i. halves-full _ _ _ ψ φ.clauses _ _ _ (c.add_all.ensures φ ψ h i) c.in_err-e.was _)
