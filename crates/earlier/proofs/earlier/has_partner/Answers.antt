-- The partner has the literal that z lacks.
-- Assumes nothing.
use mathlib.Core.Path.{◌∙◌}
use Rattle.earlier.proofs.EarlierLaws.{partner-told, other-own}
use Rattle.earlier.proofs.earlier.has_partner.Goals as goal

pub returns : goal.returns
returns c = λ φ g. partner-told φ _ _ _ _ _ _ _ (c.own_literal.ensures ∙ other-own _ _) c.lacking-literal.ensures _ (c.any_made_with.ensures φ g)
