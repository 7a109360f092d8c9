-- By the bound, then by the limits.
-- Assumes nothing.
use Rattle.growth.proofs.ExpandLoops.{weighs-over, weighs-fitting, weighs-wide}
use Rattle.growth.proofs.weigh_expanded.Goals as goal

pub returns-then-below-weight : goal.returns-then-below-weight
returns-then-below-weight c = weighs-over _ _ _ c.weight_of-weight.ensures.counted c.if-below-weight.true

pub returns-then-counts_fit : goal.returns-then-counts_fit
returns-then-counts_fit c = weighs-fitting _ _ _ c.weight_of-weight.ensures.counted c.if-below-weight.false _ c.counts_fit.ensures c.if-counts_fit.true

pub returns : goal.returns
returns c = weighs-wide _ _ _ c.weight_of-weight.ensures.counted c.if-below-weight.false _ c.counts_fit.ensures c.if-counts_fit.false
