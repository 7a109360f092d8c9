-- The end of the clause before.
-- Assumes nothing.
use mathlib.Core.Path.{◌∙◌}
use native.Mathlib.Omega.{arith}
use Rattle.why.proofs.PlaceLaws.{start_first, start-past, start-end}
use Rattle.why.proofs.clauses.start_of.Goals.{then-i-eq0-via-then-i-eq0, then-i-eq0-via-else-i-eq0+then-i-gt2047}
use Rattle.why.proofs.clauses.start_of.Goals as goal

pub returns-then-i-eq0 : goal.returns-then-i-eq0
returns-then-i-eq0 c =
    elim c.then-i-eq0.branch [
      | then-i-eq0-via-then-i-eq0 w ↦ start_first _ _ w.if-i-eq0.true
      | then-i-eq0-via-else-i-eq0+then-i-gt2047 w ↦ start-past _ _ w.if-i-gt2047.true
    ]

pub returns : goal.returns
returns c = c.from.ensures ∙ start-end c.args.t.now c.args.i c.if-i-eq0.false (omega arith)
