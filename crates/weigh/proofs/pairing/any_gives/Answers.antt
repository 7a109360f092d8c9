-- The loop's invariant: the negative clauses from j to m decide.
-- Assumes nothing.
use Rattle.index.proofs.ReadLaws.{study-in}
use mathlib.Core.Path.{refl}
use native.Mathlib.Omega.{arith}
use Rattle.meaning.specs.Formula.{negated}
use Rattle.permits.proofs.PlaceLaws.{entries-of}
use Rattle.index.proofs.ReadLaws.{studied-indexes}
use Rattle.weigh.specs.Resolving.{any_gives}
use Rattle.sides.proofs.FileLaws.{filed-of, side-ordered}
use Rattle.weigh.proofs.ResolvRows.{partner-found, partner-turn, partner-end}
use Rattle.weigh.proofs.pairing.any_gives.Goals as goal

pub loop-j-init : goal.loop-j-init
unfolding any_gives
loop-j-init c = λ φ g. refl

pub clause_with-y-requires : goal.clause_with-y-requires
unfolding negated
clause_with-y-requires c = λ φ h. omega (arith, c.requires.m_in_bounds φ h)

pub gives-requires-clause-ordered : goal.gives-requires-clause-ordered
gives-requires-clause-ordered c =
    let f = filed-of (study-in c.args.at.now.studied).studied in
    (c.requires.ordered, rw (c.clause_with-y.ensures (study-in c.args.at.now.studied).formula f) (side-ordered f _ c.loop-j.j))

pub returns-then-gives : goal.returns-then-gives
returns-then-gives c =
    λ φ d. partner-found φ c.args.a _ _ (c.requires.m_in_bounds φ (studied-indexes d)) _ c.loop-j.j (c.loop-j.invariant φ d)
    (omega arith) _ (c.clause_with-y.ensures φ (filed-of d)) _
    (c.gives.ensures φ.prefix (entries-of φ d.well d.holds.fitting) d.ranked) c.if-gives.true

pub loop-j-preserved : goal.loop-j-preserved
loop-j-preserved c =
    λ φ d. partner-turn φ c.args.a _ _ (c.requires.m_in_bounds φ (studied-indexes d)) _ c.loop-j.j (c.loop-j.invariant φ d)
    (omega arith) _ (c.clause_with-y.ensures φ (filed-of d)) _
    (c.gives.ensures φ.prefix (entries-of φ d.well d.holds.fitting) d.ranked) c.if-gives.false

pub returns : goal.returns
returns c =
    λ φ d. partner-end φ c.args.a _ _ (c.requires.m_in_bounds φ (studied-indexes d)) _ c.loop-j.j (c.loop-j.invariant φ d)
    (omega arith)
