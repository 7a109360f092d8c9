-- The entry goes into the table and has its rank; the table is never full.
-- Assumes nothing.
use Rattle.tracks.specs.Tracks.{so_far}
use Rattle.tracks.proofs.TrackLaws.{entry-rank, entry-never, entry_done}
use Rattle.tracks.proofs.add_entry.Goals as goal

pub add_rank-requires : goal.add_rank-requires
add_rank-requires c = entry-rank c.requires.state _ _ _ c.requires.stores _ c.requires.allowed

pub returns-in-Some : goal.returns-in-Some
returns-in-Some c = λ st h a. entry_done st _ _ _ h _ a _ _ (c.push_variable.ensures (so_far st) h.table) _ c.in-Some.is _ c.with_entry.ensures _ c.add_rank.ensures

pub returns-in-None : goal.returns-in-None
returns-in-None c = λ st h a. absurd (entry-never st _ _ _ h _ a _ _ (c.push_variable.ensures (so_far st) h.table) c.in-None.is)
