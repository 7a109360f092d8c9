-- What is written stands behind the clause.
-- Assumes nothing.
use Prim.Native.Nat.{◌+◌}
use mathlib.Core.Path.{◌∙◌}
use native.Mathlib.Omega.{arith}
use lib.Seq.{take-set-le}
use Rattle.hints.proofs.remember.Goals as goal

pub returns : goal.returns
returns c = take-set-le c.args.m _ c.args.at _ (omega (arith, c.if-at-m.false)) ∙ take-set-le c.args.m _ (c.args.at + 1) _ (omega (arith, c.if-at-m.false))
