use native.Mathlib.Omega.{arith}
use Rattle.lines.proofs.Writing.{written-copy}
use Rattle.lines.proofs.bytes.write_bytes.Goals as goal

pub returns : goal.returns
returns c = written-copy c.requires c.copy_from_slice.ensures.after (omega arith)
