use native.Mathlib.Omega.{arith}
use Rattle.lines.proofs.Writing.{going_start, written_none, written_as}
use Rattle.lines.proofs.Parts.{room-rest, prefix-done, prefix-none, first-room, rest-room, rest-turn, rest-room-last, rest-done}
use Rattle.lines.proofs.prefixes.write_prefix.Goals as goal

pub returns-in_default : goal.returns-in_default
returns-in_default c = written_as (prefix-none _ (omega arith)) (written_none _ _)

pub write_first-at-requires : goal.write_first-at-requires
write_first-at-requires c = first-room _ c.in-len1-up.len_at_least c.requires

pub loop-e-init : goal.loop-e-init
loop-e-init c = going_start _ _ _

pub write_entry-at-requires : goal.write_entry-at-requires
write_entry-at-requires c =
    rest-room _ c.loop-e.e-index _ c.loop-e.invariant (omega arith) (room-rest _ c.in-len1-up.len_at_least c.write_first-at.ensures c.requires)

pub loop-e-preserved : goal.loop-e-preserved
loop-e-preserved c = rest-turn _ c.loop-e.e-index _ c.loop-e.invariant (omega arith) c.write_entry-at.ensures

pub write_end-requires : goal.write_end-requires
write_end-requires c =
    rest-room-last _ c.loop-e.e-index _ c.loop-e.invariant (omega arith) (room-rest _ c.in-len1-up.len_at_least c.write_first-at.ensures c.requires)

pub returns : goal.returns
returns c =
    prefix-done _ c.in-len1-up.len_at_least c.write_first-at.ensures
    (rest-done _ c.loop-e.e-index _ c.loop-e.invariant (omega arith) c.write_end.ensures)
