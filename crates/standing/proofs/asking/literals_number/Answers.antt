use Rattle.judging.specs.Check.{asked_number}
use Rattle.standing.proofs.asking.literals_number.Goals as goal

pub returns-in-Ok : goal.returns-in-Ok
unfolding asked_number
returns-in-Ok c = rw (← c.literals_answer.ensures, c.in-Ok.is)

pub returns-in-Err-WrongLength : goal.returns-in-Err-WrongLength
unfolding asked_number
returns-in-Err-WrongLength c = rw (← c.literals_answer.ensures, c.in-Err-WrongLength.is, c.in-Err-WrongLength.field-0-is)

pub returns-in-Err-Malformed : goal.returns-in-Err-Malformed
unfolding asked_number
returns-in-Err-Malformed c = rw (← c.literals_answer.ensures, c.in-Err-Malformed.is, c.in-Err-Malformed.field-0-is)
