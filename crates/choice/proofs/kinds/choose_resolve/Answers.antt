-- By the lightest of kind 6; without one, by kind 7.
-- Assumes nothing.
use mathlib.Core.Path.{refl}
use native.Mathlib.Omega.{arith}
use Rattle.rules.specs.Entry.{resolve, code}
use Rattle.rules.specs.Choice.{costly}
use Rattle.table.proofs.HoldLaws.{count-clauses}
use Rattle.index.proofs.ReadLaws.{studied-indexes, study-indexed, study-in}
use Rattle.choice.specs.Chosen.{kinds_after, next_from}
use Rattle.choice.proofs.HandLaws.{studied-ranks, apart-ranked}
use Rattle.choice.proofs.KindLaws.{best-small, best-next, best_none, best-later}
use Rattle.choice.proofs.SearchedLaws.{searched-resolve}
use Rattle.choice.proofs.kinds.choose_resolve.Goals as goal

pub entry_of-requires : goal.entry_of-requires
entry_of-requires c = (omega arith, best-small 0 c.requires.0.formula resolve _ (c.best_resolve.ensures c.requires.0.formula 0 c.requires.0.studied) c.requires.0.studied.holds.fitting _ c.in-Ok.is, omega arith)

pub overflow_cast-a : goal.overflow_cast-a
overflow_cast-a c = let l = best-small 0 c.requires.0.formula resolve _ (c.best_resolve.ensures c.requires.0.formula 0 c.requires.0.studied) c.requires.0.studied.holds.fitting _ c.in-Ok.is in omega arith

pub clauses_of-requires : goal.clauses_of-requires
clauses_of-requires c = study-indexed (study-in c.args.at.now.studied)

pub choose_expand-requires : goal.choose_expand-requires
choose_expand-requires c = (apart-ranked c.requires.0, c.requires.1)

pub returns-in-Ok : goal.returns-in-Ok
unfolding costly code
returns-in-Ok c =
    λ φ s n q. best-next _ φ resolve _ (c.best_resolve.ensures φ _ s) refl _ c.in-Ok.is _ (c.entry_of.ensures resolve refl) _
    (searched-resolve φ s.well _ _ (q _) (count-clauses s.holds) _ (c.clauses_of.ensures φ (studied-indexes s)) _ c.saturating_sub.ensures)

pub returns-in-Err : goal.returns-in-Err
unfolding next_from kinds_after
returns-in-Err c = λ φ s n q. let i = c.best_resolve.ensures φ _ s in best-later _ φ resolve _ i _ c.in-Err.is _ (c.choose_expand.ensures φ (studied-ranks s n) (best_none _ φ resolve _ i _ c.in-Err.is).1)
