-- By the weights, then by the limits.
-- Assumes nothing.
use mathlib.Core.Path.{refl}
use native.Mathlib.Omega.{arith}
use Rattle.rules.specs.Entry.{expand, code}
use Rattle.rules.specs.Step.{result_of}
use Rattle.rules.proofs.Permitted.{expand-says}
use Rattle.meaning.proofs.Prefix.{forall-mentioned}
use Rattle.table.proofs.HoldLaws.{bounds}
use Rattle.choice.proofs.TurnLaws.{weight_is, ranked-held}
use Rattle.reasoning.proofs.RoomLaws.{expand-variables, expand-room, small-there}
use Rattle.reasoning.proofs.StepLaws.{held-sums, expand-heavy, expand-limit}
use Rattle.reasoning.proofs.weights.why_expand.Goals as goal

pub expanded_counts-d-requires-clause-held : goal.expanded_counts-d-requires-clause-held
expanded_counts-d-requires-clause-held c = ranked-held c.requires.ranked.0

pub expanded_counts-d-requires-clause-nonempty : goal.expanded_counts-d-requires-clause-nonempty
expanded_counts-d-requires-clause-nonempty c = expand-variables c.requires.ranked.0.formula c.requires.ranked.0.ranks-of.well c.args.u (c.requires.u_value c.requires.ranked.0.formula c.requires.ranked.0.ranks-of) c.requires.ranked.0.ranks-of.holds

pub weight_of-before-requires : goal.weight_of-before-requires
weight_of-before-requires c = held-sums c.requires.ranked.0.ranks-of.holds

pub overflow_add-before : goal.overflow_add-before
overflow_add-before c = let k = bounds (ranked-held c.requires.ranked.0) in omega (arith, weight_is c.requires.ranked.0.ranks-of.holds, c.weight_of-before.ensures.weighed _ c.requires.ranked.0.ranks-of.holds.counts, c.requires.ranked.1)

pub returns-then-before-allowance : goal.returns-then-before-allowance
returns-then-before-allowance c = λ φ g. let ok = c.requires.u_value φ g in expand-heavy _ φ c.args.u ok _ _ (c.weight_of-before.ensures.weighed φ g.holds.counts) (c.weight_of-after.ensures.weighed _ (c.expanded_counts-d.ensures.value φ g.holds g.well g.ranked g.apart ok)) c.if-before-allowance.true

pub entry_of-requires : goal.entry_of-requires
entry_of-requires c = let k = small-there c.requires.ranked.0.ranks-of.holds c.requires.ranked.0.ranks-of.well c.args.u (forall-mentioned c.requires.ranked.0.formula.prefix c.args.u (expand-says c.requires.ranked.0.formula c.args.u (c.requires.u_value c.requires.ranked.0.formula c.requires.ranked.0.ranks-of)).forall) in (omega arith, omega arith, omega arith)

pub returns : goal.returns
unfolding code
returns c = λ φ g. let ok = c.requires.u_value φ g in let i = c.expanded_counts-d.ensures.value φ g.holds g.well g.ranked g.apart ok in expand-limit _ φ c.args.u ok _ _ (c.weight_of-before.ensures.weighed φ g.holds.counts) (c.weight_of-after.ensures.weighed _ i) c.if-before-allowance.false _ (c.entry_of.ensures expand refl) _ (c.limit_or.ensures (result_of φ expand c.args.u 0) i (expand-room φ g.well c.args.u ok g.holds.fitting _ i))
