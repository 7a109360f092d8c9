-- The filter is made to cover the target, then the clauses follow: those up to the first that changes, and the others.
-- Assumes nothing.
use mathlib.Core.Path.{◌∙◌}
use Rattle.table.proofs.HoldLaws.{held, prefix-is}
use Rattle.rebuilds.proofs.RawLaws.{ready-as, shrunk-as, all-on}
use Rattle.rebuilds.proofs.LeadLaws.{led-upto, led-over}
use Rattle.rebuilds.proofs.rebuilding.add_all.Goals as goal

pub add_each-requires-clause-held_target : goal.add_each-requires-clause-held_target
add_each-requires-clause-held_target c =
    let g = led-upto _ _ _ _ _ _ _ (c.copy_lead.ensures.led _ _ c.requires.held.holds c.requires.held_target.holds) _ c.in_ok-i.was in
    held g.holds

pub add_each-requires-clause-ready : goal.add_each-requires-clause-ready
add_each-requires-clause-ready c =
    let g = led-upto _ _ _ _ _ _ _ (c.copy_lead.ensures.led _ _ c.requires.held.holds c.requires.held_target.holds) _ c.in_ok-i.was in
    ready-as c.requires.held_target.holds c.requires.ready g.holds g.prefix

pub add_each-requires-clause-shrunk : goal.add_each-requires-clause-shrunk
add_each-requires-clause-shrunk c =
    let g = led-upto _ _ _ _ _ _ _ (c.copy_lead.ensures.led _ _ c.requires.held.holds c.requires.held_target.holds) _ c.in_ok-i.was in
    (shrunk-as c.requires.held_target.holds c.requires.shrunk.0 _ (prefix-is g.holds ∙ g.prefix), c.requires.shrunk.1)

pub returns : goal.returns
returns c =
    λ φ ψ h q. let g = led-upto _ _ φ.clauses ψ _ _ _ (c.copy_lead.ensures.led φ ψ h q) _ c.in_ok-i.was in
    all-on _ _ ψ φ.clauses _ _ _ _ g _ _ (c.add_each.ensures φ g.formula h g.holds)

pub returns-in_err-i : goal.returns-in_err-i
returns-in_err-i c = rw c.from_residual.ensures (λ φ ψ h q. led-over _ _ φ.clauses ψ _ _ _ (c.copy_lead.ensures.led φ ψ h q) c.in_err-i.was)
