-- By the number.
-- Assumes nothing.
use native.Mathlib.Omega.{arith}
use Rattle.meaning.proofs.Basics.{eqb-ne}
use Rattle.reader.specs.Reading.{answer_for}
use Rattle.reader.proofs.answer_for.Goals as goal

pub returns-in-1 : goal.returns-in-1
unfolding answer_for
returns-in-1 c = rw c.in-1.is

pub returns-in-3 : goal.returns-in-3
unfolding answer_for
returns-in-3 c = rw c.in-3.is

pub returns-in-4 : goal.returns-in-4
unfolding answer_for
returns-in-4 c = rw c.in-4.is

pub returns-in-5 : goal.returns-in-5
unfolding answer_for
returns-in-5 c = rw c.in-5.is

pub returns-in-6 : goal.returns-in-6
unfolding answer_for
returns-in-6 c = rw c.in-6.is

pub returns-in-7 : goal.returns-in-7
unfolding answer_for
returns-in-7 c = rw c.in-7.is

pub returns-in-8 : goal.returns-in-8
unfolding answer_for
returns-in-8 c = rw c.in-8.is

pub returns-in_default : goal.returns-in_default
unfolding answer_for
returns-in_default c =
    let k = c.args.k in
    rw (eqb-ne k 1 (omega arith), eqb-ne k 3 (omega arith), eqb-ne k 4 (omega arith), eqb-ne k 5 (omega arith), eqb-ne k 6 (omega arith), eqb-ne k 7 (omega arith), eqb-ne k 8 (omega arith))
