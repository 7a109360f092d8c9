-- With a bound that is not reached the counts are those of all pairs.
-- Assumes nothing.
use Rattle.index.proofs.ReadLaws.{study-in}
use native.Mathlib.Omega.{arith}
use Rattle.sides.proofs.FileLaws.{filed-of}
use Rattle.weigh.proofs.ResolvWeigh.{counted-whole}
use Rattle.weigh.proofs.ResolvStart.{some-variables, permitted-there, permitted-small}
use Rattle.weigh.proofs.resolving.resolved_counts.Goals as goal

pub counts_left-d-requires : goal.counts_left-d-requires
counts_left-d-requires c =
    let ok = c.requires.a_value (study-in c.args.at.now.studied).formula (study-in c.args.at.now.studied).studied in
    (permitted-small (study-in c.args.at.now.studied).studied c.args.a ok, some-variables (filed-of (study-in c.args.at.now.studied).studied) c.args.a (permitted-there (study-in c.args.at.now.studied).formula c.args.a ok))

pub count_pairs-requires-clause-a_bound : goal.count_pairs-requires-clause-a_bound
count_pairs-requires-clause-a_bound c =
    let ok = c.requires.a_value (study-in c.args.at.now.studied).formula (study-in c.args.at.now.studied).studied in
    permitted-small (study-in c.args.at.now.studied).studied c.args.a ok

pub returns-clause-summable : goal.returns-clause-summable
returns-clause-summable c = c.count_pairs.ensures.variables_bound.1

pub returns-clause-value : goal.returns-clause-value
returns-clause-value c = λ φ g. counted-whole φ g.well c.args.a _ _
    (c.count_pairs.ensures.counted_to φ g (c.counts_left-d.ensures.value φ (filed-of g) (permitted-there φ c.args.a (c.requires.a_value φ g))))
    c.count_pairs.ensures.variables_bound.1 (omega arith)
