-- A long clause apart; else a clause with a literal too many gives nothing, and any other is tried.
-- Assumes nothing.
use mathlib.Core.Path.{sym, ◌∙◌}
use Rattle.meaning.specs.Formula.{negated}
use Rattle.permits.proofs.PlaceLaws.{good-entries}
use Rattle.resolvents.proofs.ResolvFits.{not-fits-negative}
use Rattle.resolvents.proofs.resolvents.gives.Goals as goal

pub returns-then-clause-ge-LONG : goal.returns-then-clause-ge-LONG
returns-then-clause-ge-LONG c = c.gives_long.ensures

pub returns-then-fits_in : goal.returns-then-fits_in
returns-then-fits_in c = λ q g k. c.is_resolvent.ensures q (good-entries q g) k

pub returns-else-fits_in : goal.returns-else-fits_in
unfolding negated
returns-else-fits_in c = λ q g k. c.if-fits_in.false ∙ sym (not-fits-negative q _ _ _ c.args.a (sym (c.fits_in.ensures q g k) ∙ c.if-fits_in.false))
