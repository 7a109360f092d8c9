-- By the answer.
-- Assumes nothing.
use Rattle.reader.specs.Reading.{read_number}
use Rattle.reader.proofs.ReadAnswer.number.Goals as goal

pub returns-in-Read : goal.returns-in-Read
unfolding read_number
returns-in-Read c = rw c.in-Read.is

pub returns-in-Length : goal.returns-in-Length
unfolding read_number
returns-in-Length c = rw c.in-Length.is

pub returns-in-Syntax : goal.returns-in-Syntax
unfolding read_number
returns-in-Syntax c = rw c.in-Syntax.is

pub returns-in-Short : goal.returns-in-Short
unfolding read_number
returns-in-Short c = rw c.in-Short.is

pub returns-in-Range : goal.returns-in-Range
unfolding read_number
returns-in-Range c = rw c.in-Range.is

pub returns-in-Twice : goal.returns-in-Twice
unfolding read_number
returns-in-Twice c = rw c.in-Twice.is

pub returns-in-Unbound : goal.returns-in-Unbound
unfolding read_number
returns-in-Unbound c = rw c.in-Unbound.is

pub returns-in-Count : goal.returns-in-Count
unfolding read_number
returns-in-Count c = rw c.in-Count.is

pub returns-in-TooBig : goal.returns-in-TooBig
unfolding read_number
returns-in-TooBig c = rw c.in-TooBig.is
