-- By whether n has one digit.
-- Assumes nothing.
use native.Mathlib.Omega.{arith}
use Rattle.lines.proofs.Writing.{written_as, written_both, room_as, room-first, room_next}
use Rattle.lines.proofs.Parts.{number_short, number-long}
use Rattle.lines.proofs.numbers.+write_number.Goals as goal

pub write_byte-requires : goal.write_byte-requires
write_byte-requires t c = room_as (number_short _ c.if-n-lt10.true) c.requires

pub returns-then-n-lt10 : goal.returns-then-n-lt10
returns-then-n-lt10 t c = written_as (number_short _ c.if-n-lt10.true) c.write_byte.ensures

pub write_number-last-requires : goal.write_number-last-requires
write_number-last-requires t c = (omega arith, room-first (number-long _ c.if-n-lt10.false) c.requires)

pub write_byte-requires-2 : goal.write_byte-requires-2
write_byte-requires-2 t c = room_next (number-long _ c.if-n-lt10.false) c.write_number-last.ensures c.requires

pub returns : goal.returns
returns t c = written_both (number-long _ c.if-n-lt10.false) c.write_number-last.ensures c.write_byte-2.ensures
