-- The loop's invariant: the numbers from j on are shifted. Then the place is stored to.
-- Assumes nothing.
use Prim.Native.Nat.{◌+◌, ◌-◌}
use mathlib.Core.Path.{◌≡◌, refl}
use native.Mathlib.Omega.{arith}
use lib.ListN.{length-set}
use Rattle.table.proofs.InsertLaws.{place-within, shift_none, shift-turn, insert-done}
use Rattle.table.proofs.insert.insert_at.Goals as goal

pub loop-j-init : goal.loop-j-init
loop-j-init c = (place-within _ _ _ _ c.requires.0 c.requires.2, omega arith, refl, shift_none _ c.args.m)

pub loop-j-preserved : goal.loop-j-preserved
loop-j-preserved c = (
  omega arith,
  omega arith,
  simp length-set c.loop-j.invariant.2,
  let j : c.loop-j.j - 1 + 1 ≡ c.loop-j.j = omega arith in
      rw j (shift-turn _ _ c.args.p _ _ c.loop-j.invariant.3 (omega arith) (omega arith) (omega arith)),
)

pub returns : goal.returns
returns c =
    let e : c.loop-j.j ≡ c.args.p = omega arith in
    rw (rw e at c.loop-j.invariant.3) (insert-done _ _ _ _ c.requires.0 c.requires.2 c.requires.1)
