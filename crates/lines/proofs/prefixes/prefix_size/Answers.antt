use mathlib.Core.Path.{ap}
use native.Mathlib.Omega.{arith}
use lib.ListN.{length}
use Rattle.lines.proofs.Parts.{prefix-none, first_counted, rest-counts, rest-counted}
use Rattle.lines.proofs.prefixes.prefix_size.Goals as goal

pub returns-in_default : goal.returns-in_default
returns-in_default c = record { is = ap length (prefix-none _ (omega arith)); few = omega arith }

pub loop-e-init : goal.loop-e-init
loop-e-init c = (first_counted _ c.in-len1-up.len_at_least _ c.number_size-n.ensures, omega arith)

pub loop-e-preserved : goal.loop-e-preserved
loop-e-preserved c = (rest-counts _ c.loop-e.e-index _ _ _ c.loop-e.invariant.0 (omega arith) _ c.entry_size-n.ensures.is, omega arith)

pub returns : goal.returns
returns c = record { is = rest-counted _ c.loop-e.e-index _ _ _ c.loop-e.invariant.0 (omega arith); few = omega arith }
