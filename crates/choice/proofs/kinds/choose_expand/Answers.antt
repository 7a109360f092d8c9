-- By the lightest of kind 7. Nothing is known of what comes of it.
-- Assumes nothing.
use mathlib.Core.Path.{refl}
use native.Mathlib.Omega.{arith}
use Rattle.rules.specs.Entry.{expand, code}
use Rattle.rules.specs.Choice.{costly}
use Rattle.search.proofs.SearchedLaws.{searched-none}
use Rattle.choice.proofs.KindLaws.{best-small, best-next, best_none, best-later, stuck-next}
use Rattle.choice.proofs.kinds.choose_expand.Goals as goal

pub entry_of-requires : goal.entry_of-requires
entry_of-requires c = (omega arith, best-small _ c.requires.0.formula expand _ (c.best_expand.ensures c.requires.0.formula c.requires.0.ranks-of) c.requires.0.ranks-of.holds.fitting _ c.in-Ok.is, omega arith)

pub returns-in-Ok : goal.returns-in-Ok
unfolding costly code
returns-in-Ok c = λ φ r h. best-next _ φ expand _ (c.best_expand.ensures φ r) refl _ c.in-Ok.is _ (c.entry_of.ensures expand refl) _ (searched-none _)

pub returns-in-Err : goal.returns-in-Err
returns-in-Err c = λ φ r h. let i = c.best_expand.ensures φ r in best-later _ φ expand _ i _ c.in-Err.is _ (stuck-next _ φ _ (c.stuck.ensures _ _ h (best_none _ φ expand _ i _ c.in-Err.is).1))
