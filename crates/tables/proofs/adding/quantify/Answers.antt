-- A new variable is pushed and ranked.
-- Assumes nothing.
use mathlib.Core.Path.{sym, ◌∙◌}
use Rattle.table.proofs.HoldLaws.{count-variables}
use Rattle.table.proofs.ReadyLaws.{ready-full, ready-new, ready-room, ready-variable, rankable-small}
use Rattle.tables.proofs.adding.quantify.Goals as goal

pub add_rank-requires : goal.add_rank-requires
add_rank-requires c =
    let new = sym (c.is_new.ensures _ c.requires.ranked) ∙ c.if-is_new.true in
    let b = c.push_variable.ensures _ c.requires.holds in
    (ready-room c.requires _ new _ _ _ b _ c.in-Some.is, rankable-small _ _ new)

pub returns-in-Some : goal.returns-in-Some
returns-in-Some c =
    let new = sym (c.is_new.ensures _ c.requires.ranked) ∙ c.if-is_new.true in
    let b = c.push_variable.ensures _ c.requires.holds in
    ready-variable c.requires _ new _ _ _ b _ c.in-Some.is _ (c.add_rank.ensures _ (sym (count-variables c.requires.holds)) (ready-new c.requires _ new) c.requires.ranked)

pub returns-in-None : goal.returns-in-None
returns-in-None c =
    let new = sym (c.is_new.ensures _ c.requires.ranked) ∙ c.if-is_new.true in
    let b = c.push_variable.ensures _ c.requires.holds in
    ready-full c.requires _ _ _ _ b c.in-None.is
