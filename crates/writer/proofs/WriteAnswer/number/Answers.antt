-- By the answer.
-- Assumes nothing.
use Rattle.writer.specs.Written.{write_number}
use Rattle.writer.proofs.WriteAnswer.number.Goals as goal

pub returns-in-Written : goal.returns-in-Written
unfolding write_number
returns-in-Written c = rw c.in-Written.is

pub returns-in-Length : goal.returns-in-Length
unfolding write_number
returns-in-Length c = rw c.in-Length.is

pub returns-in-Malformed : goal.returns-in-Malformed
unfolding write_number
returns-in-Malformed c = rw c.in-Malformed.is

pub returns-in-NoRoom : goal.returns-in-NoRoom
unfolding write_number
returns-in-NoRoom c = rw c.in-NoRoom.is
