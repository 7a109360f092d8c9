-- Whatever is answered, the table stays ready.
-- Assumes nothing.
use Rattle.table.proofs.ReadyLaws.{ready_held, ready-full, ready-raw}
use Rattle.tables.specs.Going.{StillReady}
use Rattle.tables.proofs.ErrLaws.{any-err}
use Rattle.tables.proofs.adding.close.Goals as goal

pub close_clause-requires-clause-held : goal.close_clause-requires-clause-held
close_clause-requires-clause-held g c = ready_held c.requires.ready

pub close_clause-requires-clause-pended : goal.close_clause-requires-clause-pended
close_clause-requires-clause-pended g c = c.requires.pended

pub returns-in_ok-say_counts-in-Some-clause-ok : goal.returns-in_ok-say_counts-in-Some-clause-ok
returns-in_ok-say_counts-in-Some-clause-ok g c =
    let b = c.close_clause.ensures c.requires.ready.formula c.requires.pended.raw c.requires.ready.holds c.requires.ready.good c.requires.ready.ranked c.requires.pended.pends in
    ready-raw c.requires.ready c.requires.pended.raw _ _ _ b _ c.in-Some.is

pub returns-in_ok-println-in-None-clause-ok : goal.returns-in_ok-println-in-None-clause-ok
returns-in_ok-println-in-None-clause-ok g c =
    let b = c.close_clause.ensures c.requires.ready.formula c.requires.pended.raw c.requires.ready.holds c.requires.ready.good c.requires.ready.ranked c.requires.pended.pends in
    ready-full c.requires.ready _ _ _ _ b c.in-None.is

pub returns-in_err-say_counts-in-Some-clause-err : goal.returns-in_err-say_counts-in-Some-clause-err
returns-in_err-say_counts-in-Some-clause-err g c =
    let b = c.close_clause.ensures c.requires.ready.formula c.requires.pended.raw c.requires.ready.holds c.requires.ready.good c.requires.ready.ranked c.requires.pended.pends in
    let still : StillReady c.close_clause.new.t c.args.ranks.now = (c.in-Some.d, ready-raw c.requires.ready c.requires.pended.raw _ _ _ b _ c.in-Some.is) in
    any-err _ still

pub returns-in_err-println-in-None-clause-err : goal.returns-in_err-println-in-None-clause-err
returns-in_err-println-in-None-clause-err g c =
    let b = c.close_clause.ensures c.requires.ready.formula c.requires.pended.raw c.requires.ready.holds c.requires.ready.good c.requires.ready.ranked c.requires.pended.pends in
    let still : StillReady c.close_clause.new.t c.args.ranks.now = (c.args.c, ready-full c.requires.ready _ _ _ _ b c.in-None.is) in
    any-err _ still
