use Rattle.lines.proofs.Writing.{room-first, room_next, written_both}
use Rattle.lines.proofs.Parts.{header-first, header-next}
use Rattle.lines.proofs.headers.write_header.Goals as goal

pub write_bytes-at-requires : goal.write_bytes-at-requires
write_bytes-at-requires c = room-first (header-first _ _) c.requires

pub write_field-at-requires : goal.write_field-at-requires
write_field-at-requires c = room-first (header-next _ _) (room_next (header-first _ _) c.write_bytes-at.ensures c.requires)

pub write_field-requires : goal.write_field-requires
write_field-requires c = room_next (header-next _ _) c.write_field-at.ensures (room_next (header-first _ _) c.write_bytes-at.ensures c.requires)

pub returns : goal.returns
returns c = written_both (header-first _ _) c.write_bytes-at.ensures (written_both (header-next _ _) c.write_field-at.ensures c.write_field.ensures)
