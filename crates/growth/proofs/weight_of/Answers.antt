-- The sum is the definition's, and that of the formula's own counts.
-- Assumes nothing.
use Rattle.std.proofs.Common.{refl}
use Rattle.growth.specs.Expanding.{weight_of}
use Rattle.growth.proofs.ExpandLoops.{weight_is}
use Rattle.growth.proofs.weight_of.Goals as goal

pub returns-clause-counted : goal.returns-clause-counted
unfolding weight_of
returns-clause-counted c = refl

pub returns-clause-weighed : goal.returns-clause-weighed
returns-clause-weighed c = λ ψ e. weight_is ψ _ e
