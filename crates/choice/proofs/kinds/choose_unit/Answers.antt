-- By the candidate of kind 1, of which nothing is known; without one, by the kinds after it.
-- Assumes nothing.
use mathlib.Core.Path.{refl}
use native.Mathlib.Omega.{arith}
use Rattle.rules.specs.Entry.{unit, code}
use Rattle.table.proofs.HoldLaws.{held}
use Rattle.search.proofs.SearchedLaws.{searched-none}
use Rattle.choice.specs.Chosen.{kinds_after, next_from}
use Rattle.choice.proofs.KindLaws.{pair_small, pair-next, nothing-next}
use Rattle.choice.proofs.kinds.choose_unit.Goals as goal

pub find_unit-requires : goal.find_unit-requires
find_unit-requires c = held c.requires.0.holds

pub entry_of-requires : goal.entry_of-requires
entry_of-requires c = let q = pair_small 0 c.requires.0.formula unit _ (c.find_unit.ensures c.requires.0.formula 0 c.requires.0.holds) c.requires.0.holds.fitting _ _ c.in-Some.is in (omega arith, q.0, q.1)

pub returns-in-Some : goal.returns-in-Some
unfolding code
returns-in-Some c = λ φ h w n q. pair-next _ φ unit _ (c.find_unit.ensures φ _ h) _ _ c.in-Some.is _ (c.entry_of.ensures unit refl) _ (searched-none _)

pub returns-in-None : goal.returns-in-None
unfolding next_from kinds_after
returns-in-None c = λ φ h w n q. nothing-next _ φ unit _ (c.find_unit.ensures φ _ h) c.in-None.is _ (c.choose_pure.ensures φ h w n q)
