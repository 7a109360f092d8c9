use Rattle.lines.proofs.Writing.{room-first, room_next, written_both}
use Rattle.lines.proofs.Parts.{field-splits}
use Rattle.lines.proofs.numbers.write_field.Goals as goal

pub write_number-at-requires : goal.write_number-at-requires
write_number-at-requires c = room-first (field-splits _ _) c.requires

pub write_byte-requires : goal.write_byte-requires
write_byte-requires c = room_next (field-splits _ _) c.write_number-at.ensures c.requires

pub returns : goal.returns
returns c = written_both (field-splits _ _) c.write_number-at.ensures c.write_byte.ensures
