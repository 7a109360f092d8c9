-- Full exactly if the literals pass their limit.
-- Assumes nothing.
use Rattle.meaning.specs.Tidy.{tidied}
use Rattle.table.proofs.PendingLaws.{pended}
use Rattle.tracks.specs.Tracks.{so_far}
use Rattle.tracks.proofs.TrackLaws.{tracks-marked, close-few, close-full, close-done}
use borrow.Author.Rules.{rules}
use Rattle.tracks.proofs.close.Goals as goal

pub close_marked-requires-clause-marked : goal.close_marked-requires-clause-marked
close_marked-requires-clause-marked c = tracks-marked c.requires.tracks

pub close_marked-requires-clause-pended : goal.close_marked-requires-clause-pended
close_marked-requires-clause-pended c = pended c.requires.tracks.pending

pub with_closed-requires : goal.with_closed-requires
with_closed-requires c = close-few c.requires.state _ _ _ _ _ c.requires.tracks c.requires.allowed

pub returns-in-Some : goal.returns-in-Some
unfolding so_far tidied
returns-in-Some c =
    λ st at h a.
    let w = c.close_marked.ensures (so_far st) st.pending h.stores.table a.0 h.stores.ranks h.pending h.marked in
    close-done st _ _ _ _ _ h a _ _ _ w at _ c.in-Some.is _ c.with_closed.ensures _ (search rules)

pub returns-in-None : goal.returns-in-None
unfolding so_far tidied
returns-in-None c =
    λ st at h a.
    let w = c.close_marked.ensures (so_far st) st.pending h.stores.table a.0 h.stores.ranks h.pending h.marked in
    close-full st _ _ _ _ _ h a _ _ _ w at c.in-None.is
