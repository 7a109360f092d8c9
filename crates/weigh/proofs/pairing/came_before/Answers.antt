-- The loop's invariant: the pairs from the positive clause i on decide.
-- Assumes nothing.
use Rattle.index.proofs.ReadLaws.{study-in}
use native.Mathlib.Omega.{arith}
use Rattle.meaning.specs.Formula.{plain, negated}
use Rattle.index.proofs.ReadLaws.{studied-indexes, study-indexed}
use Rattle.sides.proofs.FileLaws.{filed-of, side-ordered}
use Rattle.weigh.proofs.ResolvFile.{pair-whole, positive-there, negative-there}
use Rattle.weigh.proofs.ResolvRows.{rows_start, rows-found, rows-turn, rows_end, row-some}
use Rattle.weigh.proofs.pairing.came_before.Goals as goal

pub count_with-n-requires : goal.count_with-n-requires
count_with-n-requires c = study-indexed (study-in c.args.at.now.studied)

pub loop-i-init : goal.loop-i-init
loop-i-init c = λ φ g. rows_start φ _ _ _

pub row_gives-requires-clause-i_in_bounds : goal.row_gives-requires-clause-i_in_bounds
unfolding plain negated
row_gives-requires-clause-i_in_bounds c = λ φ h. let e = c.count_with-n.ensures φ h in
    (omega (arith, positive-there φ c.args.a c.args.p (c.requires.pair φ h)), omega (arith, e))

pub returns-then-row_gives : goal.returns-then-row_gives
returns-then-row_gives c =
    λ φ d. let x = studied-indexes d in let e = c.count_with-n.ensures φ x in
    rows-found φ c.args.a c.args.p.number _ c.args.p.row c.args.p.column e (pair-whole φ c.args.a c.args.p (c.requires.pair φ x) _ e) _ c.loop-i.i (c.loop-i.invariant φ d)
    (omega arith) _ (c.row_gives.ensures φ d) c.if-row_gives.true

pub loop-i-preserved : goal.loop-i-preserved
loop-i-preserved c =
    λ φ d. let x = studied-indexes d in let e = c.count_with-n.ensures φ x in
    rows-turn φ c.args.a c.args.p.number _ c.args.p.row c.args.p.column e (pair-whole φ c.args.a c.args.p (c.requires.pair φ x) _ e) _ c.loop-i.i
    (c.loop-i.invariant φ d) (omega arith) _ (c.row_gives.ensures φ d) c.if-row_gives.false

pub clause_with-x-requires : goal.clause_with-x-requires
clause_with-x-requires c = λ φ h. positive-there φ c.args.a c.args.p (c.requires.pair φ h)

pub any_gives-requires-clause-ordered : goal.any_gives-requires-clause-ordered
unfolding negated
any_gives-requires-clause-ordered c =
    let f = filed-of (study-in c.args.at.now.studied).studied in
    rw (c.clause_with-x.ensures (study-in c.args.at.now.studied).formula f) (side-ordered f _ c.args.p.row)

pub any_gives-requires-clause-m_in_bounds : goal.any_gives-requires-clause-m_in_bounds
unfolding negated
any_gives-requires-clause-m_in_bounds c =
    let f = filed-of (study-in c.args.at.now.studied).studied in
    λ φ h. omega (arith, negative-there φ c.args.a c.args.p (c.requires.pair φ h))

pub returns : goal.returns
unfolding plain negated
returns c =
    λ φ d. let h = studied-indexes d in let e = c.count_with-n.ensures φ h in let k = c.requires.pair φ h in
    rows_end φ c.args.a c.args.p.number _ c.args.p.row c.args.p.column e (pair-whole φ c.args.a c.args.p k _ e) _ c.loop-i.i
    (c.loop-i.invariant φ d) (omega arith) _
    (row-some φ d.well c.args.a c.args.p.row c.args.p.column (positive-there φ c.args.a c.args.p k)
    (omega (arith, negative-there φ c.args.a c.args.p k)) _ _ (c.clause_with-x.ensures φ (filed-of d)) _ (c.any_gives.ensures φ d))
