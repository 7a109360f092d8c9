-- In the formula, or one of the resolvents before.
-- Assumes nothing.
use mathlib.Core.Path.{◌∙◌}
use Rattle.sides.proofs.FileLaws.{filed-of}
use Rattle.weigh.proofs.ResolvResult.{there-first, there-later}
use Rattle.weigh.proofs.pairing.is_there.Goals as goal

pub returns-then-is_clause : goal.returns-then-is_clause
returns-then-is_clause c = λ φ g out. c.if-is_clause.true ∙ there-first φ g.well c.args.a c.args.p.number _ out _ (c.is_clause.ensures φ (filed-of g)) c.if-is_clause.true

pub returns-else-is_clause : goal.returns-else-is_clause
returns-else-is_clause c =
    λ φ g out. there-later φ g.well c.args.a c.args.p.number _ out _ (c.is_clause.ensures φ (filed-of g)) c.if-is_clause.false _
    (c.is_earlier.ensures φ g)
