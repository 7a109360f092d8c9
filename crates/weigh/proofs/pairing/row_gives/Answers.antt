-- A clause with a literal too many gives nothing; any other is tried with its partners.
-- Assumes nothing.
use Rattle.index.proofs.ReadLaws.{study-in}
use mathlib.Core.Path.{◌∙◌}
use Rattle.meaning.specs.Formula.{plain}
use Rattle.permits.proofs.PlaceLaws.{entries-of}
use Rattle.index.proofs.ReadLaws.{studied-indexes}
use Rattle.sides.proofs.FileLaws.{filed-of, side-ordered}
use Rattle.weigh.proofs.ResolvRows.{row-some, row-none}
use Rattle.weigh.proofs.pairing.row_gives.Goals as goal

pub clause_with-x-requires : goal.clause_with-x-requires
unfolding plain
clause_with-x-requires c = λ φ h. (c.requires.i_in_bounds φ h).0

pub any_gives-requires-clause-ordered : goal.any_gives-requires-clause-ordered
any_gives-requires-clause-ordered c =
    let f = filed-of (study-in c.args.at.now.studied).studied in
    rw (c.clause_with-x.ensures (study-in c.args.at.now.studied).formula f) (side-ordered f _ c.args.i)

pub any_gives-requires-clause-m_in_bounds : goal.any_gives-requires-clause-m_in_bounds
any_gives-requires-clause-m_in_bounds c =
    let f = filed-of (study-in c.args.at.now.studied).studied in
    λ φ h. (c.requires.i_in_bounds φ h).1

pub returns-then-fits_in : goal.returns-then-fits_in
unfolding plain
returns-then-fits_in c =
    λ φ k. let b = c.requires.i_in_bounds φ (studied-indexes k) in
    row-some φ k.well c.args.a c.args.i c.args.m b.0 b.1 _ _ (c.clause_with-x.ensures φ (filed-of k)) _ (c.any_gives.ensures φ k)

pub returns-else-fits_in : goal.returns-else-fits_in
unfolding plain
returns-else-fits_in c =
    λ φ k. let b = c.requires.i_in_bounds φ (studied-indexes k) in
    c.if-fits_in.false ∙ row-none φ k.well c.args.a c.args.i c.args.m b.0 b.1 _ _ (c.clause_with-x.ensures φ (filed-of k)) _
    (c.fits_in.ensures φ.prefix (entries-of φ k.well k.holds.fitting) k.ranked) c.if-fits_in.false
