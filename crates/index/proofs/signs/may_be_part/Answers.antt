-- The signature of a clause is a part of that of a clause with all its variables.
-- Assumes nothing.
use native.Mathlib.Omega.{arith}
use Rattle.index.proofs.SignLaws.{may-be}
use Rattle.index.proofs.signs.may_be_part.Goals as goal

pub returns : goal.returns
returns c = λ x y e f h. may-be c.args.signs.now _ c.args.b x y e (f (omega arith)) h
