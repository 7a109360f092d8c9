use Rattle.qdimacs.specs.Words.{variable_of}
use Rattle.scan.proofs.Arms.{not-number}
use borrow.Author.Rules.{rules}
use Rattle.scan.proofs.moves.variable.Goals as goal

pub returns-in-Plain : goal.returns-in-Plain
unfolding variable_of
returns-in-Plain c = search rules

pub returns-in-Plain-2 : goal.returns-in-Plain-2
unfolding variable_of
returns-in-Plain-2 c = search rules

pub returns-in_default : goal.returns-in_default
returns-in_default c = (not-number _ c.in_default.not-Plain c.in_default.not-Minus).1
