-- A clause with a literal too many among its first gives nothing; for any other the resolvent is made.
-- Assumes nothing.
use mathlib.Core.Path.{sym, ap, ◌∙◌}
use Rattle.meaning.specs.Formula.{negated}
use Rattle.permits.proofs.PlaceLaws.{good-entries}
use Rattle.resolvents.specs.Resolvent.{fits_in}
use Rattle.resolvents.proofs.ResolvFits.{not-fits-negative, front_fits}
use Rattle.resolvents.proofs.resolvents.gives_long.Goals as goal

pub returns-then-fits_in : goal.returns-then-fits_in
returns-then-fits_in c = λ q g k. c.merges_to.ensures q (good-entries q g) k

pub returns-else-fits_in : goal.returns-else-fits_in
unfolding negated
returns-else-fits_in c =
    λ q g k. c.if-fits_in.false ∙ sym (not-fits-negative q _ _ _ c.args.a
    (front_fits q _ _ 32 _ (ap (fits_in q _ _) (sym c.front.ensures) ∙ sym (c.fits_in.ensures q g k) ∙ c.if-fits_in.false)))
