-- The prefix is a part of the table, and what stands right of a begins at its place.
-- Assumes nothing.
use mathlib.Core.Path.{sym}
use native.Mathlib.Omega.{arith}
use lib.ListN.{take}
use lib.Seq.{length-take-le}
use Rattle.table.proofs.HoldLaws.{bounds}
use Rattle.permits.proofs.PlaceLaws.{entries-of}
use Rattle.growth.proofs.ExpandLoops.{existentials-few, take-few}
use Rattle.growth.proofs.ExpandWeight.{counts-held}
use borrow.Author.Rules.{rules}
use Rattle.growth.proofs.expanded_counts.Goals as goal

pub slice_bounds-count_existentials-end : goal.slice_bounds-count_existentials-end
slice_bounds-count_existentials-end c = let b = bounds c.requires.held in sym (length-take-le _ _ (omega arith))

pub overflow_add-result : goal.overflow_add-result
overflow_add-result c =
    let v = (bounds c.requires.held).variables in
    let few = take-few c.args.c.variables 1023 c.args.t.now v in
    let prefix = take c.args.c.variables c.args.t.now in
    let e = existentials-few prefix c.place_of-n.result _ 1023 c.count_existentials-k.ensures few in
    search rules

pub returns-clause-summable : goal.returns-clause-summable
returns-clause-summable c =
    let v = (bounds c.requires.held).variables in
    let few = take-few c.args.c.variables 1023 c.args.t.now v in
    let prefix = take c.args.c.variables c.args.t.now in
    let e = existentials-few prefix c.place_of-n.result _ 1023 c.count_existentials-k.ensures few in
    record { variables = omega arith; clauses = omega (arith, c.expanded_size-size.ensures.small.clauses); all-literals = omega (arith, c.expanded_size-size.ensures.small.literals) }

pub returns-clause-value : goal.returns-clause-value
returns-clause-value c =
    let v = (bounds c.requires.held).variables in
    let few = take-few c.args.c.variables 1023 c.args.t.now v in
    let prefix = take c.args.c.variables c.args.t.now in
    let e = existentials-few prefix c.place_of-n.result _ 1023 c.count_existentials-k.ensures few in
    λ φ h w q none ok. counts-held h w _ ok none _ _ _
    (c.place_of-n.ensures φ.prefix q (entries-of φ w h.fitting)) c.count_existentials-k.ensures
    (c.expanded_size-size.ensures.value φ h w q) _
