-- By the candidate of kind 5, which may change every clause; without one, by the kinds after it.
-- Assumes nothing.
use mathlib.Core.Path.{refl}
use native.Mathlib.Omega.{arith}
use Rattle.rules.specs.Entry.{equality, code}
use Rattle.index.proofs.ReadLaws.{studied-indexes, study-indexed, study-in}
use Rattle.table.proofs.HoldLaws.{held}
use Rattle.search.proofs.SearchedLaws.{searched-none}
use Rattle.choice.specs.Chosen.{kinds_after, next_from}
use Rattle.choice.proofs.KindLaws.{pair_small, pair-next, nothing-next}
use Rattle.choice.proofs.kinds.choose_equality.Goals as goal

pub find_equality-requires-clause-held : goal.find_equality-requires-clause-held
find_equality-requires-clause-held c = held c.args.at.now.studied.holds

pub find_equality-requires-clause-indexed : goal.find_equality-requires-clause-indexed
find_equality-requires-clause-indexed c = study-indexed (study-in c.args.at.now.studied)

pub entry_of-requires : goal.entry_of-requires
entry_of-requires c = let q = pair_small 0 c.requires.0.formula equality _ (c.find_equality.ensures c.requires.0.formula 0 c.requires.0.studied.holds (studied-indexes c.requires.0.studied)) c.requires.0.studied.holds.fitting _ _ c.in-Some.is in (omega arith, q.0, q.1)

pub returns-in-Some : goal.returns-in-Some
unfolding code
returns-in-Some c = λ φ s n q. pair-next _ φ equality _ (c.find_equality.ensures φ _ s.holds (studied-indexes s)) _ _ c.in-Some.is _ (c.entry_of.ensures equality refl) _ (searched-none _)

pub returns-in-None : goal.returns-in-None
unfolding next_from kinds_after
returns-in-None c = λ φ s n q. nothing-next _ φ equality _ (c.find_equality.ensures φ _ s.holds (studied-indexes s)) c.in-None.is _ (c.choose_resolve.ensures φ s n q)
