-- By the weights, then by the limits.
-- Assumes nothing.
use mathlib.Core.Path.{refl}
use native.Mathlib.Omega.{arith}
use Rattle.rules.specs.Entry.{resolve, code}
use Rattle.rules.specs.Step.{result_of}
use Rattle.weigh.proofs.ResolvStart.{permitted-small}
use Rattle.reasoning.proofs.RoomLaws.{resolve-room}
use Rattle.reasoning.proofs.StepLaws.{held-sums, resolve-heavy, resolve-limit}
use Rattle.reasoning.proofs.weights.why_resolve.Goals as goal

pub weight_of-before-requires : goal.weight_of-before-requires
weight_of-before-requires c = held-sums c.args.at.now.studied.holds

pub returns-then-before-after : goal.returns-then-before-after
returns-then-before-after c = λ φ E g. resolve-heavy E φ c.args.x (c.requires.x_value φ g) _ _ (c.weight_of-before.ensures.weighed φ g.holds.counts) (c.weight_of-after.ensures.weighed _ (c.resolved_counts-d.ensures.value φ g)) c.if-before-after.true

pub entry_of-requires : goal.entry_of-requires
entry_of-requires c = let k = permitted-small c.args.at.now.studied c.args.x (c.requires.x_value _ c.args.at.now.studied) in (omega arith, omega arith, omega arith)

pub returns : goal.returns
unfolding code
returns c = λ φ E g. let i = c.resolved_counts-d.ensures.value φ g in resolve-limit E φ c.args.x (c.requires.x_value φ g) _ _ (c.weight_of-before.ensures.weighed φ g.holds.counts) (c.weight_of-after.ensures.weighed _ i) c.if-before-after.false _ (c.entry_of.ensures resolve refl) _ (c.limit_or.ensures (result_of φ resolve c.args.x 0) i (resolve-room φ g.holds.fitting c.args.x _ i))
