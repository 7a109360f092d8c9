-- An empty clause is looked for among all; any other among those with its rarest literal.
-- Assumes nothing.
use Rattle.std.proofs.Common.{◌∙◌}
use Rattle.meaning.proofs.Basics.{clash, eqb-eq}
use Rattle.sides.proofs.SideLaws.{found_among}
use Rattle.sides.proofs.sides.is_clause.Goals as goal

pub returns-then-is_empty : goal.returns-then-is_empty
returns-then-is_empty c = λ φ f. c.is_present.ensures φ f.holds

pub returns : goal.returns
returns c = λ φ f. found_among φ.clauses _ (λ e. clash (c.is_empty.ensures ∙ eqb-eq e) c.if-is_empty.false) _ (c.rarest-literal.ensures φ f.indexes) _ (c.is_among.ensures φ f)
