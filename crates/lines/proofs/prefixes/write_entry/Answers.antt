use Rattle.lines.proofs.Writing.{room_as, room-first, room_next, written_as, written_both}
use Rattle.lines.proofs.Parts.{entry-same, entry_other}
use Rattle.lines.proofs.prefixes.write_entry.Goals as goal

pub write_field-requires : goal.write_field-requires
write_field-requires c = room_as (entry-same _ _ c.if-q-e.true) c.requires

pub returns-then-q-e : goal.returns-then-q-e
returns-then-q-e c = written_as (entry-same _ _ c.if-q-e.true) c.write_field.ensures

pub write_end-at-requires : goal.write_end-at-requires
write_end-at-requires c = room-first (entry_other _ _ c.if-q-e.false) c.requires

pub write_first-requires : goal.write_first-requires
write_first-requires c = room_next (entry_other _ _ c.if-q-e.false) c.write_end-at.ensures c.requires

pub returns : goal.returns
returns c = written_both (entry_other _ _ c.if-q-e.false) c.write_end-at.ensures c.write_first.ensures
