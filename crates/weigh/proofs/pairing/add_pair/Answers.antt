-- A dropped resolvent adds nothing, nor does one that is there; any other adds a clause.
-- Assumes nothing.
use Rattle.index.proofs.ReadLaws.{study-in}
use native.Mathlib.Omega.{arith}
use Rattle.index.proofs.ReadLaws.{studied-indexes, study-indexed}
use Rattle.weigh.proofs.ResolvFile.{pairs-few}
use Rattle.weigh.proofs.ResolvWeigh.{next-dropped, kept_free, next-there, next-new, bounded-next, bounded-more, bounded-up}
use Rattle.weigh.proofs.pairing.add_pair.Goals as goal

pub returns-in-None-clause-more : goal.returns-in-None-clause-more
returns-in-None-clause-more c = bounded-next c.requires.bounded

pub returns-in-None-clause-value : goal.returns-in-None-clause-value
returns-in-None-clause-value c = λ φ g e. next-dropped φ g.well c.args.a c.args.p.number (c.requires.pair φ (studied-indexes g)).there _ e _ _
    (c.resolvent_at.ensures.tidied φ g) c.in-None.is

pub returns-then-is_there-clause-more : goal.returns-then-is_there-clause-more
returns-then-is_there-clause-more c = bounded-next c.requires.bounded

pub returns-then-is_there-clause-value : goal.returns-then-is_there-clause-value
returns-then-is_there-clause-value c = λ φ g e. let h = (c.requires.pair φ (studied-indexes g)).there in let m = c.resolvent_at.ensures.tidied φ g in
    next-there φ g.well c.args.a c.args.p.number h _ e _ _ m _ c.in-Some.is _
    (c.is_there.ensures φ g (kept_free φ g.well c.args.a c.args.p.number h _ e _ _ m _ c.in-Some.is)) c.if-is_there.true

pub with_more-requires-clause-bounded : goal.with_more-requires-clause-bounded
with_more-requires-clause-bounded c =
    let i = study-indexed (study-in c.args.at.now.studied) in
    bounded-up c.requires.bounded 5000000 (omega (arith, (c.requires.pair i.formula i.indexes).there, pairs-few i.indexes c.args.a))

pub returns-else-is_there-clause-more : goal.returns-else-is_there-clause-more
returns-else-is_there-clause-more c = rw c.with_more.ensures (bounded-more c.requires.bounded _ (omega (arith, c.in-Some.ensures.within)))

pub returns-else-is_there-clause-value : goal.returns-else-is_there-clause-value
returns-else-is_there-clause-value c =
    rw c.with_more.ensures (
    λ φ g e. let h = (c.requires.pair φ (studied-indexes g)).there in let m = c.resolvent_at.ensures.tidied φ g in
    next-new φ g.well c.args.a c.args.p.number h _ e _ _ m _ c.in-Some.is _
    (c.is_there.ensures φ g (kept_free φ g.well c.args.a c.args.p.number h _ e _ _ m _ c.in-Some.is)) c.if-is_there.false
    (omega (arith, c.in-Some.ensures.within))
    )
