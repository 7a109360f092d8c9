-- The end of the list before it, which the index holds.
-- Assumes nothing.
use Prim.Native.Nat.{◌-◌}
use native.Mathlib.Omega.{arith}
use Rattle.index.proofs.ReadLaws.{index-length, start_first, start-later}
use Rattle.index.proofs.lists.list_start.Goals as goal

pub returns-then-literal-eq0 : goal.returns-then-literal-eq0
returns-then-literal-eq0 c = λ φ h. start_first h c.args.literal c.if-literal-eq0.true

pub bounds-index-k : goal.bounds-index-k
bounds-index-k c = omega (arith, index-length c.requires.indexed.indexes)

pub overflow_cast-result : goal.overflow_cast-result
overflow_cast-result c = omega (arith, c.type_inv.index (c.args.literal - 1))

pub overflow_add-result : goal.overflow_add-result
overflow_add-result c = omega (arith, c.type_inv.index (c.args.literal - 1))

pub returns : goal.returns
returns c = λ φ h. start-later h c.args.literal c.if-literal-eq0.false c.requires.literal_bound
