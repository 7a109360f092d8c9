use Rattle.lines.proofs.Writing.{room_as, room-first, room_next, written_both, written_as}
use Rattle.lines.proofs.Parts.{literal-minus, literal-plain}
use Rattle.lines.proofs.clauses.write_literal.Goals as goal

pub write_byte-digits-requires : goal.write_byte-digits-requires
write_byte-digits-requires c = room-first (literal-minus _ c.if-l-eq1.true) c.requires

pub write_number-requires : goal.write_number-requires
write_number-requires c = room_next (literal-minus _ c.if-l-eq1.true) c.write_byte-digits.ensures c.requires

pub returns-then-l-eq1 : goal.returns-then-l-eq1
returns-then-l-eq1 c = written_both (literal-minus _ c.if-l-eq1.true) c.write_byte-digits.ensures c.write_number.ensures

pub write_number-requires-2 : goal.write_number-requires-2
write_number-requires-2 c = room_as (literal-plain _ c.if-l-eq1.false) c.requires

pub returns : goal.returns
returns c = written_as (literal-plain _ c.if-l-eq1.false) c.write_number-2.ensures
