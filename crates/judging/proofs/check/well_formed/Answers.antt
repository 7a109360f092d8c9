-- Layout, prefix, clauses.
-- Assumes nothing.
use mathlib.Core.Path.{sym, ◌∙◌}
use native.Mathlib.Omega.{arith}
use lib.ListN.{length-take}
use lib.Seq.{length-take-le}
use Rattle.table.specs.Table.{decode}
use Rattle.table.proofs.HoldLaws.{held}
use Rattle.judging.proofs.LayoutLaws.{laid}
use Rattle.judging.proofs.GoodLaws.{bad-layout, bad-prefix, entries-hold, clauses-tell}
use Rattle.judging.proofs.check.well_formed.Goals as goal

pub slice_bounds-rank_prefix-end : goal.slice_bounds-rank_prefix-end
slice_bounds-rank_prefix-end c =
    let l = laid _ _ (sym c.layout_ok.ensures ∙ c.if-not-layout_ok.false) in
    sym (length-take-le _ _ (omega (arith, l.variables, l.long)))

pub rank_prefix-requires : goal.rank_prefix-requires
rank_prefix-requires c =
    let l = laid _ _ (sym c.layout_ok.ensures ∙ c.if-not-layout_ok.false) in
    simp length-take (omega (arith, l.variables, l.long))

pub clauses_good-requires : goal.clauses_good-requires
clauses_good-requires c = held (entries-hold _ _ (sym c.layout_ok.ensures ∙ c.if-not-layout_ok.false) (sym c.rank_prefix.ensures.answer ∙ c.if-rank_prefix.true))

pub returns-then-rank_prefix : goal.returns-then-rank_prefix
unfolding decode
returns-then-rank_prefix c = clauses-tell _ _ (sym c.layout_ok.ensures ∙ c.if-not-layout_ok.false) (sym c.rank_prefix.ensures.answer ∙ c.if-rank_prefix.true) _ (c.clauses_good.ensures _ (entries-hold _ _ (sym c.layout_ok.ensures ∙ c.if-not-layout_ok.false) (sym c.rank_prefix.ensures.answer ∙ c.if-rank_prefix.true)) (sym c.rank_prefix.ensures.answer ∙ c.if-rank_prefix.true) (c.rank_prefix.ensures.table c.if-rank_prefix.true))

pub returns-else-rank_prefix : goal.returns-else-rank_prefix
returns-else-rank_prefix c = c.if-rank_prefix.false ∙ bad-prefix _ _ (sym c.rank_prefix.ensures.answer ∙ c.if-rank_prefix.false)

pub returns-then-not-layout_ok : goal.returns-then-not-layout_ok
returns-then-not-layout_ok c = bad-layout _ _ (sym c.layout_ok.ensures ∙ c.if-not-layout_ok.true)
