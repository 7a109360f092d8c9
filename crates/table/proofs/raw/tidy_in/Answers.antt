-- Dropped with both phases; else reduced.
-- Assumes nothing.
use native.Mathlib.Omega.{arith}
use Rattle.table.proofs.PendingLaws.{small-pending}
use Rattle.table.proofs.CloseLaws.{tidied-both, tidied-one}
use Rattle.table.proofs.raw.tidy_in.Goals as goal

pub returns-in_err-n-clause-tidied : goal.returns-in_err-n-clause-tidied
returns-in_err-n-clause-tidied c = λ raw q d g k. rw c.from_residual.ensures (tidied-both d q c.in_err-n.was)

pub reduce_in-requires : goal.reduce_in-requires
reduce_in-requires c = (omega (arith, c.requires.pends.room, c.requires.pends.within _ c.in_ok-n.was), small-pending c.requires.pends _ c.in_ok-n.was)

pub returns-clause-within : goal.returns-clause-within
returns-clause-within c = omega (arith, c.requires.pends.within _ c.in_ok-n.was, c.reduce_in.ensures.0)

pub returns-clause-tidied : goal.returns-clause-tidied
returns-clause-tidied c = λ raw q d g k. tidied-one d q _ c.in_ok-n.was g _ k _ _ c.reduce_in.ensures.1
