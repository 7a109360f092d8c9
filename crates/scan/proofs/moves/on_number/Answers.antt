use Rattle.scan.proofs.Arms.{lit-close, lit-range, lit-seen, lit-unbound}
use Rattle.meaning.specs.Formula.{var}
use native.Mathlib.Omega.{arith}
use Rattle.scan.proofs.moves.on_number.Goals as goal

pub returns-then-m-n : goal.returns-then-m-n
unfolding var
returns-then-m-n c = lit-range _ _ _ (omega arith)

pub returns-then-l-eq0 : goal.returns-then-l-eq0
returns-then-l-eq0 c = lit-close _ _ _ (omega arith)

pub returns-then-seen : goal.returns-then-seen
unfolding var
returns-then-seen c = lit-seen _ _ _ (omega arith) (omega arith) c.if-seen.true

pub returns-else-seen : goal.returns-else-seen
unfolding var
returns-else-seen c = lit-unbound _ _ _ (omega arith) (omega arith) c.if-seen.false
