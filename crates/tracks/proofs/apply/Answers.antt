-- One law for each move.
-- Assumes nothing.
use mathlib.Core.Path.{subst}
use Rattle.table.proofs.PendingLaws.{pended}
use Rattle.tracks.specs.Tracks.{Allowed}
use Rattle.tracks.proofs.TrackLaws.{step-fault, step-go, step-m, step-c, step-entry, step-literal}
use Rattle.tracks.proofs.apply.Goals as goal

pub add_entry-requires : goal.add_entry-requires
add_entry-requires c = record { state = c.requires.state; stores = c.requires.tracks.stores; allowed = subst (Allowed c.requires.state) c.in-Entry.is c.requires.allowed }

pub put_literal-pending-requires-clause-pended : goal.put_literal-pending-requires-clause-pended
put_literal-pending-requires-clause-pended c = pended c.requires.tracks.pending

pub put_literal-pending-requires-clause-le_literal : goal.put_literal-pending-requires-clause-le_literal
put_literal-pending-requires-clause-le_literal c = subst (Allowed c.requires.state) c.in-Literal.is c.requires.allowed

pub close-requires : goal.close-requires
close-requires c = record { state = c.requires.state; tracks = c.requires.tracks; allowed = subst (Allowed c.requires.state) c.in-Close.is c.requires.allowed }

pub returns-in-Fault : goal.returns-in-Fault
returns-in-Fault c = λ st at h a. step-fault st _ _ _ _ _ h at _ _ c.in-Fault.is

pub returns-in-Go : goal.returns-in-Go
returns-in-Go c = λ st at h a. step-go st _ _ _ _ _ h at _ _ c.in-Go.is _ c.in_phase.ensures

pub returns-in-SetM : goal.returns-in-SetM
returns-in-SetM c = λ st at h a. step-m st _ _ _ _ _ h at _ _ c.in-SetM.is _ c.with_m.ensures

pub returns-in-SetC : goal.returns-in-SetC
returns-in-SetC c = λ st at h a. step-c st _ _ _ _ _ h at _ _ c.in-SetC.is _ c.with_c.ensures

pub returns-in-Entry : goal.returns-in-Entry
returns-in-Entry c =
    λ st at h a.
    let b = subst (Allowed st) c.in-Entry.is a in
    step-entry st _ _ _ _ _ h at _ _ c.in-Entry.is b _ _ _ (c.add_entry.ensures st h.stores b)

pub returns-in-Literal : goal.returns-in-Literal
returns-in-Literal c =
    λ st at h a.
    step-literal st _ _ _ _ _ h at _ _ c.in-Literal.is _ _ c.with_pending.ensures _ (c.put_literal-pending.ensures st.pending h.pending)

pub returns-in-Close : goal.returns-in-Close
returns-in-Close c = λ st at h a. rw c.in-Close.is (c.close.ensures st at h (subst (Allowed st) c.in-Close.is a))
