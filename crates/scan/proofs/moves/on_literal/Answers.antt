use Rattle.qdimacs.specs.Words.{literal_of}
use Rattle.qdimacs.specs.Decide.{on_literal}
use Rattle.meaning.specs.Formula.{plain, negated}
use Rattle.scan.proofs.Arms.{not-number}
use mathlib.Core.Path.{◌∙◌}
use native.Mathlib.Nat.{add-zero}
use Rattle.scan.proofs.moves.on_literal.Goals as goal

pub returns-in-Plain : goal.returns-in-Plain
unfolding literal_of plain
returns-in-Plain c = c.on_number.ensures ∙ rw (c.in-Plain.is, add-zero)

pub returns-in-Minus : goal.returns-in-Minus
unfolding literal_of negated
returns-in-Minus c = c.on_number-in-Minus.ensures ∙ rw c.in-Minus.is

pub returns-in_default : goal.returns-in_default
unfolding on_literal
returns-in_default c = rw (not-number _ c.in_default.not-Plain c.in_default.not-Minus).0
