-- The library's reading of four bytes, high first.
-- Assumes nothing.
use native.Mathlib.Omega.{arith}
use Rattle.rules.specs.Entry.{byte_entry}
use Rattle.course.proofs.logs.first_entry.Goals as goal

pub returns : goal.returns
unfolding byte_entry
returns c = λ a b d e rest q. rw (c.from_be_bytes.ensures, q) (omega arith)
