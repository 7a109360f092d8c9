use native.Mathlib.Omega.{arith}
use Rattle.lines.proofs.Writing.{going_start, room-first, room_next}
use Rattle.lines.proofs.Parts.{item-splits, clause-room, clause-turn, clause-room-last, clause-done}
use Rattle.lines.proofs.clauses.write_clause.Goals as goal

pub loop-l-init : goal.loop-l-init
loop-l-init c = going_start _ _ _

pub write_literal-at-requires : goal.write_literal-at-requires
write_literal-at-requires c = room-first (item-splits _) (clause-room _ c.loop-l.l-index c.loop-l.invariant (omega arith) c.requires)

pub write_byte-at-requires : goal.write_byte-at-requires
write_byte-at-requires c = room_next (item-splits _) c.write_literal-at.ensures (clause-room _ c.loop-l.l-index c.loop-l.invariant (omega arith) c.requires)

pub loop-l-preserved : goal.loop-l-preserved
loop-l-preserved c = clause-turn _ c.loop-l.l-index c.loop-l.invariant (omega arith) c.write_literal-at.ensures c.write_byte-at.ensures

pub write_end-requires : goal.write_end-requires
write_end-requires c = clause-room-last _ c.loop-l.l-index c.loop-l.invariant (omega arith) c.requires

pub returns : goal.returns
returns c = clause-done _ c.loop-l.l-index c.loop-l.invariant (omega arith) c.write_end.ensures
