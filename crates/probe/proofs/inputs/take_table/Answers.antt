-- The tests leave room for the bytes, and what fills the table says the rest.
-- Assumes nothing.
use native.Mathlib.Omega.{arith}
use Rattle.probe.proofs.inputs.take_table.Goals as goal

pub returns-clause-taken : goal.returns-clause-taken
returns-clause-taken g c = record { table = omega arith; given = omega arith; bytes = omega arith; filled = c.fill.ensures }
