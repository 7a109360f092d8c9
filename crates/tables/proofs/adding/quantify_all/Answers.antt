-- The loop's invariant: the table stays ready.
-- Assumes nothing.
use mathlib.Core.Path.{refl, ◌∙◌}
use Rattle.tables.proofs.adding.quantify_all.Goals as goal

pub loop-entry-init : goal.loop-entry-init
loop-entry-init c = (refl, c.requires)

pub quantify-counts-requires : goal.quantify-counts-requires
quantify-counts-requires c = c.loop-entry.invariant.1

pub loop-entry-preserved : goal.loop-entry-preserved
loop-entry-preserved c = (c.quantify-counts.auto.t ∙ c.loop-entry.invariant.0, c.quantify-counts.ensures)

pub returns : goal.returns
returns c = c.loop-entry.invariant.1
