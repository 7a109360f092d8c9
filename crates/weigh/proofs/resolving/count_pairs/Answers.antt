-- The loop's invariant: the counts are those of the result with the resolvents of the pairs before.
-- Assumes nothing.
use Rattle.index.proofs.ReadLaws.{study-in}
use Prim.Native.Nat.{◌*◌}
use native.Mathlib.Omega.{arith}
use Rattle.index.proofs.ReadLaws.{studied-indexes, study-indexed}
use Rattle.sides.proofs.FileLaws.{listed-few}
use Rattle.weigh.proofs.ResolvFile.{pairs-few, pair_of, some_pairs, positive-there}
use Rattle.weigh.proofs.ResolvWeigh.{bounded-sums, counted-early, counted-all}
use Rattle.weigh.proofs.resolving.count_pairs.Goals as goal

pub pair_count-n-requires-clause-indexed : goal.pair_count-n-requires-clause-indexed
pair_count-n-requires-clause-indexed c = study-indexed (study-in c.args.at.now.studied)

pub count_with-width-requires : goal.count_with-width-requires
count_with-width-requires c = study-indexed (study-in c.args.at.now.studied)

pub loop-number-init : goal.loop-number-init
loop-number-init c = (c.first_pair-p.ensures.0, rw c.first_pair-p.ensures.0 c.requires.bounded, c.first_pair-p.ensures.1 _, λ φ g e. rw c.first_pair-p.ensures.0 e)

pub weight_of-requires : goal.weight_of-requires
weight_of-requires c =
    let i = study-indexed (study-in c.args.at.now.studied) in
    (bounded-sums c.loop-number.invariant.1
    (omega (arith, c.loop-number.invariant.0, c.pair_count-n.ensures i.formula i.indexes, pairs-few i.indexes c.args.a))).1

pub returns-then-below-weight_of-clause-variables_bound : goal.returns-then-below-weight_of-clause-variables_bound
returns-then-below-weight_of-clause-variables_bound c =
    let i = study-indexed (study-in c.args.at.now.studied) in
    bounded-sums c.loop-number.invariant.1
    (omega (arith, c.loop-number.invariant.0, c.pair_count-n.ensures i.formula i.indexes, pairs-few i.indexes c.args.a))

pub returns-then-below-weight_of-clause-counted_to : goal.returns-then-below-weight_of-clause-counted_to
returns-then-below-weight_of-clause-counted_to c =
    let i = study-indexed (study-in c.args.at.now.studied) in
    λ φ g e. let is = c.loop-number.invariant.3 φ g e in
    counted-early φ g.well c.args.a _ c.loop-number.p.number _ _ is (c.weight_of.ensures.weighed _ is) c.if-below-weight_of.true

pub add_pair-f-requires-clause-pair : goal.add_pair-f-requires-clause-pair
add_pair-f-requires-clause-pair c = λ φ h. pair_of φ c.args.a _ c.loop-number.p (c.count_with-width.ensures φ h)
    (omega (arith, c.pair_count-n.ensures φ h)) c.loop-number.invariant.2

pub add_pair-f-requires-clause-bounded : goal.add_pair-f-requires-clause-bounded
add_pair-f-requires-clause-bounded c = c.loop-number.invariant.1

pub next_pair-p-requires-clause-placed : goal.next_pair-p-requires-clause-placed
next_pair-p-requires-clause-placed c =
    let i = study-indexed (study-in c.args.at.now.studied) in
    let e = c.count_with-width.ensures i.formula i.indexes in
    let n = c.pair_count-n.ensures i.formula i.indexes in
    let g = pair_of i.formula c.args.a _ c.loop-number.p e (omega (arith, n)) c.loop-number.invariant.2 in
    (c.loop-number.invariant.2, omega (arith, e, some_pairs i.formula c.args.a c.loop-number.p g))

pub next_pair-p-requires-clause-number_bound : goal.next_pair-p-requires-clause-number_bound
next_pair-p-requires-clause-number_bound c =
    let i = study-indexed (study-in c.args.at.now.studied) in
    let e = c.count_with-width.ensures i.formula i.indexes in
    let n = c.pair_count-n.ensures i.formula i.indexes in
    let g = pair_of i.formula c.args.a _ c.loop-number.p e (omega (arith, n)) c.loop-number.invariant.2 in (
      omega (arith, n, pairs-few i.indexes c.args.a),
      omega (arith, positive-there i.formula c.args.a c.loop-number.p g, listed-few i.indexes (2 * c.args.a)),
    )

pub loop-number-preserved : goal.loop-number-preserved
loop-number-preserved c = (
  omega (arith, c.next_pair-p.ensures.0),
  rw c.next_pair-p.ensures.0 c.add_pair-f.ensures.more,
  c.next_pair-p.ensures.1,
  λ φ g e. rw c.next_pair-p.ensures.0 (c.add_pair-f.ensures.value φ g (c.loop-number.invariant.3 φ g e)),
)

pub returns-clause-variables_bound : goal.returns-clause-variables_bound
returns-clause-variables_bound c =
    let i = study-indexed (study-in c.args.at.now.studied) in
    bounded-sums c.loop-number.invariant.1
    (omega (arith, c.loop-number.invariant.0, c.pair_count-n.ensures i.formula i.indexes, pairs-few i.indexes c.args.a))

pub returns-clause-counted_to : goal.returns-clause-counted_to
returns-clause-counted_to c =
    let i = study-indexed (study-in c.args.at.now.studied) in
    λ φ g e. counted-all φ g.well c.args.a _ c.loop-number.p.number _ (c.loop-number.invariant.3 φ g e)
    (omega (arith, c.pair_count-n.ensures φ (studied-indexes g), c.loop-number.invariant.0))
