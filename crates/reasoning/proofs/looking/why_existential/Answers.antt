-- By whether it may be resolved.
-- Assumes nothing.
use mathlib.Core.Path.{sym, ◌∙◌}
use Rattle.table.proofs.HoldLaws.{held}
use Rattle.reasoning.proofs.StepLaws.{far-is}
use Rattle.reasoning.proofs.looking.why_existential.Goals as goal

pub why_resolve-requires : goal.why_resolve-requires
why_resolve-requires c = record { x_value = λ φ g. sym (c.may_resolve.ensures φ g) ∙ c.if-may_resolve.true }

pub returns-then-may_resolve : goal.returns-then-may_resolve
returns-then-may_resolve c = λ φ E g m. c.why_resolve.ensures φ E g

pub why_far-requires : goal.why_far-requires
why_far-requires c = record { held = held c.args.at.now.studied.holds }

pub returns : goal.returns
returns c = λ φ E g m. far-is E φ _ _ (c.may_resolve.ensures φ g) c.if-may_resolve.false _ (c.why_far.ensures φ g.holds g.well g.ranked m)
