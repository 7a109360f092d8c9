-- Each tried, or found by the index.
-- Assumes nothing.
use Rattle.index.proofs.ReadLaws.{study-in}
use mathlib.Core.Path.{refl}
use native.Mathlib.Omega.{arith}
use Rattle.table.proofs.HoldLaws.{count-clauses}
use Rattle.index.proofs.ReadLaws.{studied-indexes, study-indexed}
use Rattle.sides.proofs.FileLaws.{listed-there}
use Rattle.weigh.proofs.ResolvFile.{positive-there, negative-there}
use Rattle.earlier.proofs.ListedLaws.{listed-low}
use Rattle.weigh.proofs.CameLaws.{came-told}
use Rattle.weigh.proofs.pairing.is_earlier.Goals as goal

pub number_with-m-requires-clause-indexed : goal.number_with-m-requires-clause-indexed
number_with-m-requires-clause-indexed c = study-indexed (study-in c.args.at.now.studied)

pub number_with-m-requires-clause-i_in_bounds : goal.number_with-m-requires-clause-i_in_bounds
number_with-m-requires-clause-i_in_bounds c = λ φ h. positive-there φ c.args.a c.args.p (c.requires.pair φ h)

pub number_with-n-requires-clause-indexed : goal.number_with-n-requires-clause-indexed
number_with-n-requires-clause-indexed c = study-indexed (study-in c.args.at.now.studied)

pub number_with-n-requires-clause-i_in_bounds : goal.number_with-n-requires-clause-i_in_bounds
number_with-n-requires-clause-i_in_bounds c = λ φ h. negative-there φ c.args.a c.args.p (c.requires.pair φ h)

pub is_made_earlier-requires-clause-m_bound : goal.is_made_earlier-requires-clause-m_bound
is_made_earlier-requires-clause-m_bound c =
    let h = studied-indexes (study-in c.args.at.now.studied).studied in
    omega (
      arith,
      count-clauses (study-in c.args.at.now.studied).studied.holds,
      c.number_with-m.ensures (study-in c.args.at.now.studied).formula h,
      listed-low _ (study-in c.args.at.now.studied).formula.clauses _ refl c.args.p.row
          (listed-there (study-in c.args.at.now.studied).formula.clauses _ _ refl c.args.p.row (positive-there (study-in c.args.at.now.studied).formula c.args.a c.args.p (c.requires.pair (study-in c.args.at.now.studied).formula h))),
    )

pub is_made_earlier-requires-clause-nonempty : goal.is_made_earlier-requires-clause-nonempty
is_made_earlier-requires-clause-nonempty c = c.tries_each.ensures c.if-tries_each.false

pub returns : goal.returns
returns c =
    λ φ g. let h = studied-indexes g in
    came-told φ g.well c.args.a _ c.args.p (c.requires.pair φ h) _ _ (c.number_with-m.ensures φ h) (c.number_with-n.ensures φ h) _
    (c.is_made_earlier.ensures φ g)
