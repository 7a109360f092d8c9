-- A clause from the bound on is none of the first, and one with a literal too many gives nothing; any other is the one of the pair, or the other.
-- Assumes nothing.
use Rattle.index.proofs.ReadLaws.{study-in}
use mathlib.Core.Path.{◌∙◌}
use Rattle.permits.proofs.PlaceLaws.{entries-of}
use Rattle.sides.proofs.FileLaws.{filed-of, clause-ordered}
use Rattle.earlier.proofs.EarlierLaws.{past_first, in-first, with-turned, with-straight, other-out, other-own}
use Rattle.earlier.proofs.earlier.is_made_with.Goals as goal

pub returns-then-b-j : goal.returns-then-b-j
returns-then-b-j c = λ φ k. past_first _ _ _ c.if-b-j.true

pub is_made-requires-clause-ordered : goal.is_made-requires-clause-ordered
is_made-requires-clause-ordered c = (rw (c.clause_at-y.ensures (study-in c.args.at.now.studied).formula (study-in c.args.at.now.studied).studied.holds) (clause-ordered (filed-of (study-in c.args.at.now.studied).studied) _), c.requires.ordered)

pub returns-then-turned : goal.returns-then-turned
returns-then-turned c =
    λ φ k. in-first _ _ _ _ c.if-b-j.false
    (with-turned φ _ _ _ _ _ _ (c.clause_at-y.ensures φ k.holds) _ c.if-turned.true (c.is_made.ensures φ k))

pub is_made-requires-then-fits_in-clause-ordered : goal.is_made-requires-then-fits_in-clause-ordered
is_made-requires-then-fits_in-clause-ordered c = (c.requires.ordered, rw (c.clause_at-y.ensures (study-in c.args.at.now.studied).formula (study-in c.args.at.now.studied).studied.holds) (clause-ordered (filed-of (study-in c.args.at.now.studied).studied) _))

pub returns-then-fits_in : goal.returns-then-fits_in
returns-then-fits_in c =
    λ φ k. in-first _ _ _ _ c.if-b-j.false
    (with-straight φ _ _ _ _ _ _ (c.clause_at-y.ensures φ k.holds) _ c.if-turned.false (c.is_made-then-fits_in.ensures φ k))

pub returns : goal.returns
returns c =
    λ φ k. in-first _ _ _ _ c.if-b-j.false
    (other-out φ _ _ _ _ _ _ (c.own_literal.ensures ∙ other-own _ _) _
    (c.fits_in.ensures φ.prefix (entries-of φ k.well k.holds.fitting) k.ranked) c.if-fits_in.false _ (c.clause_at-y.ensures φ k.holds))
