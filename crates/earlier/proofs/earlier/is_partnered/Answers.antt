-- A clause from the bound on is none of the first, and one with a literal too many has no partner.
-- Assumes nothing.
use Rattle.index.proofs.ReadLaws.{study-in}
use mathlib.Core.Path.{◌∙◌}
use Rattle.permits.proofs.PlaceLaws.{entries-of}
use Rattle.sides.proofs.FileLaws.{filed-of, clause-ordered}
use Rattle.earlier.proofs.EarlierLaws.{past_first, in-first, partner-same, partner-out}
use Rattle.earlier.proofs.earlier.is_partnered.Goals as goal

pub returns-then-d-j : goal.returns-then-d-j
returns-then-d-j c = λ φ k. past_first _ _ _ c.if-d-j.true

pub has_partner-requires-clause-ordered : goal.has_partner-requires-clause-ordered
has_partner-requires-clause-ordered c = rw (c.clause_at-z.ensures (study-in c.args.at.now.studied).formula (study-in c.args.at.now.studied).studied.holds) (clause-ordered (filed-of (study-in c.args.at.now.studied).studied) _)

pub returns-then-fits_in : goal.returns-then-fits_in
returns-then-fits_in c =
    λ φ k. in-first _ _ _ _ c.if-d-j.false
    (partner-same φ _ _ _ _ _ _ (c.clause_at-z.ensures φ k.holds) _ (c.has_partner.ensures φ k))

pub returns-else-fits_in : goal.returns-else-fits_in
returns-else-fits_in c =
    λ φ k. in-first _ _ _ _ c.if-d-j.false
    (c.if-fits_in.false ∙ partner-same φ _ _ _ _ _ _ (c.clause_at-z.ensures φ k.holds) _
    (partner-out φ _ _ _ _ _ _ c.own_literal.ensures _
    (c.fits_in.ensures φ.prefix (entries-of φ k.well k.holds.fitting) k.ranked) c.if-fits_in.false))
