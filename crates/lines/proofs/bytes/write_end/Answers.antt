use Rattle.lines.proofs.Writing.{room_as, written_as}
use Rattle.lines.proofs.Parts.{end_is}
use Rattle.lines.proofs.bytes.write_end.Goals as goal

pub write_bytes-requires : goal.write_bytes-requires
write_bytes-requires c = room_as end_is c.requires

pub returns : goal.returns
returns c = written_as end_is c.write_bytes.ensures
