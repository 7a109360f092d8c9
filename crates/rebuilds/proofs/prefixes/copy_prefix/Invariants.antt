-- The loop's invariant: the entries so far are copied.
-- Assumes nothing.
use mathlib.Core.Path.{◌≡◌}
use lib.ListN.{length, take}
use Rattle.meaning.specs.Formula.{Formula, drop_var}
use Rattle.table.specs.Table.{Holds}
use Rattle.rebuilds.specs.Raws.{bare}
use Rattle.rebuilds.proofs.prefixes.copy_prefix.Given as goal

abbrev pub invariant-loop-q : goal.invariant-loop-q
invariant-loop-q l = (length l.target ≡ length l.initial.target) × (l.e.second ≡ l.second) × ((φ : Formula) → Holds φ l.source l.fn.c → Holds (bare (drop_var l.v (take l.q-index φ.prefix))) l.target l.e)
