-- No existential, or what is left is too heavy already, or not permitted; else counted pair by pair.
-- Assumes nothing.
use Rattle.index.proofs.ReadLaws.{study-in}
use Rattle.permits.proofs.PlaceLaws.{entries-of}
use Rattle.sides.proofs.FileLaws.{filed-of}
use Rattle.weigh.proofs.ResolvWeigh.{weighed-whole, bounded-sums}
use Rattle.weigh.proofs.ResolvStart.{some-variables, existing-there, existing-small, rest-small, step_other, step-floor, step-none, step-some}
use native.Mathlib.Omega.{arith}
use Rattle.weigh.proofs.resolving.weigh_resolve.Goals as goal

pub counts_left-d-requires : goal.counts_left-d-requires
counts_left-d-requires c =
    let is = c.is_existential.ensures (study-in c.args.at.now.studied).formula.prefix (study-in c.args.at.now.studied).studied.ranked (entries-of (study-in c.args.at.now.studied).formula (study-in c.args.at.now.studied).studied.well (study-in c.args.at.now.studied).studied.holds.fitting) in (
      existing-small (study-in c.args.at.now.studied).studied c.args.a _ is c.if-is_existential.true,
      some-variables (filed-of (study-in c.args.at.now.studied).studied) c.args.a (existing-there (study-in c.args.at.now.studied).studied c.args.a _ is c.if-is_existential.true),
    )

pub weight_of-requires : goal.weight_of-requires
weight_of-requires c = (bounded-sums c.counts_left-d.ensures.bounded (omega arith)).1

pub returns-then-below-weight_of : goal.returns-then-below-weight_of
returns-then-below-weight_of c =
    λ φ g. let is = c.is_existential.ensures φ.prefix g.ranked (entries-of φ g.well g.holds.fitting) in
    step-floor φ g.well c.args.a _ _
    (c.weight_of.ensures.weighed _ (c.counts_left-d.ensures.value φ (filed-of g) (existing-there g c.args.a _ is c.if-is_existential.true))) c.if-below-weight_of.true

pub count_pairs-e-requires-clause-a_bound : goal.count_pairs-e-requires-clause-a_bound
count_pairs-e-requires-clause-a_bound c =
    let is = c.is_existential.ensures (study-in c.args.at.now.studied).formula.prefix (study-in c.args.at.now.studied).studied.ranked (entries-of (study-in c.args.at.now.studied).formula (study-in c.args.at.now.studied).studied.well (study-in c.args.at.now.studied).studied.holds.fitting) in
    existing-small (study-in c.args.at.now.studied).studied c.args.a _ is c.if-is_existential.true

pub weigh_counts-requires : goal.weigh_counts-requires
weigh_counts-requires c = c.count_pairs-e.ensures.variables_bound

pub returns-then-may_resolve_within : goal.returns-then-may_resolve_within
returns-then-may_resolve_within c =
    λ φ g. let is = c.is_existential.ensures φ.prefix g.ranked (entries-of φ g.well g.holds.fitting) in
    let n = c.count_pairs-e.ensures.counted_to φ g (c.counts_left-d.ensures.value φ (filed-of g) (existing-there g c.args.a _ is c.if-is_existential.true)) in
    step-some _ φ c.args.a _ (c.may_resolve_within.ensures φ g) c.if-may_resolve_within.true _
    (weighed-whole φ g.well c.args.a _ _ n _ (c.weigh_counts.ensures _ n.counted (rest-small φ g.holds.fitting c.args.a n.some)))

pub returns-then-is_existential : goal.returns-then-is_existential
returns-then-is_existential c = λ φ g. step-none _ φ _ _ (c.may_resolve_within.ensures φ g) c.if-may_resolve_within.false

pub returns : goal.returns
returns c = λ φ g. step_other g _ _ (c.is_existential.ensures φ.prefix g.ranked (entries-of φ g.well g.holds.fitting)) c.if-is_existential.false _
