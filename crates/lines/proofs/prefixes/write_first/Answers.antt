use Rattle.lines.proofs.Writing.{room-first, room_next, written_both}
use Rattle.lines.proofs.Parts.{first-splits, space-splits}
use Rattle.lines.proofs.prefixes.write_first.Goals as goal

pub write_letter-at-requires : goal.write_letter-at-requires
write_letter-at-requires c = room-first (first-splits _) c.requires

pub write_byte-at-requires : goal.write_byte-at-requires
write_byte-at-requires c = room-first (space-splits _) (room_next (first-splits _) c.write_letter-at.ensures c.requires)

pub write_field-requires : goal.write_field-requires
write_field-requires c = room_next (space-splits _) c.write_byte-at.ensures (room_next (first-splits _) c.write_letter-at.ensures c.requires)

pub returns : goal.returns
returns c = written_both (first-splits _) c.write_letter-at.ensures (written_both (space-splits _) c.write_byte-at.ensures c.write_field.ensures)
