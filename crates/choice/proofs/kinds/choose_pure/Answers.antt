-- By the candidate of kind 2, from the tally; without one, by the kinds after it.
-- Assumes nothing.
use mathlib.Core.Path.{refl, ◌∙◌}
use native.Mathlib.Omega.{arith}
use Rattle.rules.specs.Entry.{pure, code}
use Rattle.rules.specs.Step.{permitted, raw_of, result_of}
use Rattle.table.proofs.HoldLaws.{held}
use Rattle.choice.specs.Chosen.{kinds_after, next_from}
use Rattle.choice.proofs.HandLaws.{unsettled-well, tally-of}
use Rattle.choice.proofs.KindLaws.{pair_small, pair-permitted, pair-next, nothing-next}
use Rattle.choice.proofs.kinds.choose_pure.Goals as goal

pub put_tally-requires-clause-held_well : goal.put_tally-requires-clause-held_well
put_tally-requires-clause-held_well c = unsettled-well c.requires.0

pub put_tally-requires-clause-tally_len : goal.put_tally-requires-clause-tally_len
put_tally-requires-clause-tally_len c = c.requires.1

pub find_pure-requires-clause-held : goal.find_pure-requires-clause-held
find_pure-requires-clause-held c = held c.requires.0.holds

pub find_pure-requires-clause-tallied : goal.find_pure-requires-clause-tallied
find_pure-requires-clause-tallied c = record { formula = c.requires.0.formula; tallies = tally-of c.requires.0.holds c.requires.0.well (c.put_tally.ensures c.requires.0.formula c.requires.0.holds c.requires.0.well) }

pub entry_of-requires : goal.entry_of-requires
entry_of-requires c =
    let i = c.find_pure.ensures c.requires.0.formula 0 c.requires.0.holds (tally-of c.requires.0.holds c.requires.0.well (c.put_tally.ensures c.requires.0.formula c.requires.0.holds c.requires.0.well)) in
    let q = pair_small 0 c.requires.0.formula pure _ i c.requires.0.holds.fitting _ _ c.in-Some.is in (omega arith, q.0, q.1)

pub searched_without-requires-clause-held : goal.searched_without-requires-clause-held
searched_without-requires-clause-held c =
    let t = tally-of c.requires.0.holds c.requires.0.well (c.put_tally.ensures c.requires.0.formula c.requires.0.holds c.requires.0.well) in
    let q = pair_small 0 c.requires.0.formula pure _ (c.find_pure.ensures c.requires.0.formula 0 c.requires.0.holds t) c.requires.0.holds.fitting _ _ c.in-Some.is in
    held c.requires.0.holds

pub searched_without-requires-clause-tallied : goal.searched_without-requires-clause-tallied
searched_without-requires-clause-tallied c =
    let t = tally-of c.requires.0.holds c.requires.0.well (c.put_tally.ensures c.requires.0.formula c.requires.0.holds c.requires.0.well) in
    let q = pair_small 0 c.requires.0.formula pure _ (c.find_pure.ensures c.requires.0.formula 0 c.requires.0.holds t) c.requires.0.holds.fitting _ _ c.in-Some.is in
    record { formula = c.requires.0.formula; tallies = t }

pub searched_without-requires-clause-a_bound : goal.searched_without-requires-clause-a_bound
searched_without-requires-clause-a_bound c =
    let t = tally-of c.requires.0.holds c.requires.0.well (c.put_tally.ensures c.requires.0.formula c.requires.0.holds c.requires.0.well) in
    let q = pair_small 0 c.requires.0.formula pure _ (c.find_pure.ensures c.requires.0.formula 0 c.requires.0.holds t) c.requires.0.holds.fitting _ _ c.in-Some.is in
    q.0

pub choose_indexed-requires : goal.choose_indexed-requires
choose_indexed-requires c = (c.requires.0, c.put_tally.auto.tally ∙ c.requires.1, c.requires.2, c.put_tally.ensures)

pub returns-in-Some : goal.returns-in-Some
unfolding code permitted result_of raw_of
returns-in-Some c =
    λ φ h w n q. let t = tally-of h w (c.put_tally.ensures φ h w) in
    let i = c.find_pure.ensures φ _ h t in
    pair-next _ φ pure _ i _ _ c.in-Some.is _ (c.entry_of.ensures pure refl) _ (c.searched_without.ensures φ h t (pair-permitted _ φ pure _ i _ _ c.in-Some.is) q)

pub returns-in-None : goal.returns-in-None
unfolding next_from kinds_after
returns-in-None c = λ φ h w n q. let i = c.find_pure.ensures φ _ h (tally-of h w (c.put_tally.ensures φ h w)) in nothing-next _ φ pure _ i c.in-None.is _ (c.choose_indexed.ensures φ h w n q)
