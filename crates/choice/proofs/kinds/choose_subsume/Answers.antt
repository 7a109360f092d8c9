-- By the candidate of kind 3; without one, by the kinds after it.
-- Assumes nothing.
use mathlib.Core.Path.{refl}
use native.Mathlib.Omega.{arith}
use Rattle.rules.specs.Entry.{subsume, code}
use Rattle.index.proofs.ReadLaws.{studied-indexes, study-indexed, study-in}
use Rattle.table.proofs.HoldLaws.{held}
use Rattle.search.proofs.SearchedLaws.{subsume-none}
use Rattle.choice.specs.Chosen.{kinds_after, next_from}
use Rattle.choice.proofs.HandLaws.{busy-unsubsumed}
use Rattle.choice.proofs.KindLaws.{pair_small, pair-next, nothing-found, nothing-next}
use Rattle.choice.proofs.SearchedLaws.{searched-subsume}
use Rattle.choice.proofs.kinds.choose_subsume.Goals as goal

pub find_subsume-requires-clause-held : goal.find_subsume-requires-clause-held
find_subsume-requires-clause-held c = held c.args.at.now.studied.holds

pub find_subsume-requires-clause-indexed : goal.find_subsume-requires-clause-indexed
find_subsume-requires-clause-indexed c = study-indexed (study-in c.args.at.now.studied)

pub entry_of-requires : goal.entry_of-requires
entry_of-requires c = let q = pair_small 0 c.requires.0.formula subsume _ (c.find_subsume.ensures c.requires.0.formula 0 c.requires.0.studied.holds (studied-indexes c.requires.0.studied) c.requires.0.no-empty c.requires.0.searched) c.requires.0.studied.holds.fitting _ _ c.in-Some.is in (omega arith, q.0, q.1)

pub choose_strengthen-requires : goal.choose_strengthen-requires
choose_strengthen-requires c =
    let i = c.find_subsume.ensures c.requires.0.formula 0 c.requires.0.studied.holds (studied-indexes c.requires.0.studied) c.requires.0.no-empty c.requires.0.searched in
    (busy-unsubsumed c.requires.0 (subsume-none 0 c.requires.0.formula (nothing-found 0 c.requires.0.formula subsume _ i c.in-None.is)), c.requires.1)

pub returns-in-Some : goal.returns-in-Some
unfolding code
returns-in-Some c =
    λ φ s n q. pair-next _ φ subsume _ (c.find_subsume.ensures φ _ s.holds (studied-indexes s) n q) _ _ c.in-Some.is _ (c.entry_of.ensures subsume refl) _
    (searched-subsume φ s.well _ _ _ q _ c.saturating_sub.ensures)

pub returns-in-None : goal.returns-in-None
unfolding next_from kinds_after
returns-in-None c =
    λ φ s n q. let i = c.find_subsume.ensures φ _ s.holds (studied-indexes s) n q in
    nothing-next _ φ subsume _ i c.in-None.is _ (c.choose_strengthen.ensures φ s (subsume-none _ φ (nothing-found _ φ subsume _ i c.in-None.is)) q)
