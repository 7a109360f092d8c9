-- By the candidate of kind 4; without one, by the kinds after it, and all clauses are searched.
-- Assumes nothing.
use mathlib.Core.Path.{refl}
use native.Mathlib.Omega.{arith}
use Rattle.rules.specs.Entry.{strengthen, code}
use Rattle.rules.specs.Step.{permitted}
use Rattle.search.proofs.SearchedLaws.{searched-of, strengthen-none}
use Rattle.choice.specs.Chosen.{kinds_after, next_from}
use Rattle.choice.proofs.HandLaws.{unsubsumed-apart}
use Rattle.choice.proofs.KindLaws.{pair_small, pair-permitted, pair-next, nothing-found, nothing-next}
use Rattle.choice.proofs.SearchedLaws.{searched-strengthen}
use Rattle.choice.proofs.kinds.choose_strengthen.Goals as goal

pub entry_of-requires : goal.entry_of-requires
entry_of-requires c = let q = pair_small 0 c.requires.0.formula strengthen _ (c.find_strengthen.ensures c.requires.0.formula 0 c.requires.0.studied c.requires.0.searched) c.requires.0.studied.holds.fitting _ _ c.in-Some.is in (omega arith, q.0, q.1)

pub choose_equality-requires : goal.choose_equality-requires
choose_equality-requires c = (unsubsumed-apart c.requires.0, c.requires.1)

pub returns-in-Some : goal.returns-in-Some
unfolding code permitted
returns-in-Some c =
    λ φ s n q. let i = c.find_strengthen.ensures φ _ s q in
    pair-next _ φ strengthen _ i _ _ c.in-Some.is _ (c.entry_of.ensures strengthen refl) _
    (searched-strengthen φ s.well _ _ (pair-permitted _ φ strengthen _ i _ _ c.in-Some.is) _ q _ c.min.ensures)

pub returns-in-None : goal.returns-in-None
unfolding next_from kinds_after
returns-in-None c =
    λ φ s n q. let i = c.find_strengthen.ensures φ _ s q in
    nothing-next _ φ strengthen _ i c.in-None.is _ (c.choose_equality.ensures φ s n (searched-of φ n (strengthen-none _ φ (nothing-found _ φ strengthen _ i c.in-None.is))))
