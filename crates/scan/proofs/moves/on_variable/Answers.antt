use Rattle.qdimacs.specs.Words.{plain_of}
use Rattle.qdimacs.specs.Decide.{on_variable}
use Rattle.scan.proofs.Arms.{not_plain, var-ending, var-range, var-twice, var-entry}
use Rattle.scan.proofs.moves.on_variable.Goals as goal

pub returns-then-v-eq0 : goal.returns-then-v-eq0
unfolding plain_of
returns-then-v-eq0 c = rw c.in-Plain.is (var-ending _ _ _ _ _ c.if-v-eq0.true)

pub returns-then-m-v : goal.returns-then-m-v
unfolding plain_of
returns-then-m-v c = rw c.in-Plain.is (var-range _ _ _ _ _ c.if-v-eq0.false c.if-m-v.true)

pub returns-then-seen : goal.returns-then-seen
unfolding plain_of
returns-then-seen c = rw c.in-Plain.is (var-twice _ _ _ _ _ c.if-v-eq0.false c.if-m-v.false c.if-seen.true)

pub returns-else-seen : goal.returns-else-seen
unfolding plain_of
returns-else-seen c = rw c.in-Plain.is (var-entry _ _ _ _ _ c.if-v-eq0.false c.if-m-v.false c.if-seen.false)

pub returns-in_default : goal.returns-in_default
unfolding on_variable
returns-in_default c = rw (not_plain _ c.in_default.not-Plain)
