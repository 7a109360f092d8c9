-- The library's bytes, high first.
-- Assumes nothing.
use Rattle.rules.specs.Entry.{entry_bytes}
use Rattle.course.proofs.logs.put_entry.Goals as goal

pub returns : goal.returns
unfolding entry_bytes
returns c = rw (c.copy_from_slice.ensures.after, c.to_be_bytes.ensures)
