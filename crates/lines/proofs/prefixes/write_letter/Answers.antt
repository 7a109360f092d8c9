use Rattle.lines.proofs.Writing.{room_as, written_as}
use Rattle.lines.proofs.Parts.{letter-universal, letter-existential}
use Rattle.lines.proofs.prefixes.write_letter.Goals as goal

pub write_byte-requires : goal.write_byte-requires
write_byte-requires c = room_as (letter-universal _ c.if-e-eq1.true) c.requires

pub returns-then-e-eq1 : goal.returns-then-e-eq1
returns-then-e-eq1 c = written_as (letter-universal _ c.if-e-eq1.true) c.write_byte.ensures

pub write_byte-requires-2 : goal.write_byte-requires-2
write_byte-requires-2 c = room_as (letter-existential _ c.if-e-eq1.false) c.requires

pub returns : goal.returns
returns c = written_as (letter-existential _ c.if-e-eq1.false) c.write_byte-2.ensures
