use Rattle.qdimacs.specs.Decide.{on_m}
use Rattle.qdimacs.specs.Words.{plain_of}
use Rattle.scan.proofs.Arms.{not_plain}
use borrow.Author.Tests.{lt-ltb, le-ltb}
use Rattle.scan.proofs.moves.on_m.Goals as goal

pub returns-then-n-gt-MAX_VARIABLES : goal.returns-then-n-gt-MAX_VARIABLES
unfolding on_m plain_of
returns-then-n-gt-MAX_VARIABLES c = rw (c.in-Plain.is, lt-ltb _ _ c.if-n-gt-MAX_VARIABLES.true)

pub returns-else-n-gt-MAX_VARIABLES : goal.returns-else-n-gt-MAX_VARIABLES
unfolding on_m plain_of
returns-else-n-gt-MAX_VARIABLES c = rw (c.in-Plain.is, le-ltb _ _ c.if-n-gt-MAX_VARIABLES.false)

pub returns-in_default : goal.returns-in_default
unfolding on_m
returns-in_default c = rw (not_plain _ c.in_default.not-Plain)
