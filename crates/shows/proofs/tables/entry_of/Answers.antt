-- Both bytes, or none.
-- Assumes nothing.
use mathlib.Core.Path.{refl}
use native.Mathlib.Omega.{arith}
use Rattle.shows.proofs.NumberLaws.{entry-given}
use Rattle.shows.proofs.tables.entry_of.Goals as goal

pub returns-then-k-given : goal.returns-then-k-given
returns-then-k-given c = entry-given _ _ _ _ c.if-k-given.true c.pair.ensures

pub returns : goal.returns
returns c = ((λ l. omega (arith, l, c.if-k-given.false)), (λ l. refl))
