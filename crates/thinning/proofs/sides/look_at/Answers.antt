-- Each way to go on is a law.
-- Assumes nothing.
use native.Mathlib.Omega.{arith}
use Rattle.table.proofs.HoldLaws.{bounds, count-clauses}
use Rattle.thinning.proofs.ReadLaws.{few, clause-small}
use Rattle.thinning.proofs.OtherLaws.{free-of}
use Rattle.thinning.proofs.GoingLaws.{going-flagged, going-standing, going-left}
use Rattle.thinning.proofs.sides.look_at.Goals as goal

pub last_by-own-requires : goal.last_by-own-requires
last_by-own-requires c = clause-small c.requires.readable c.args.i c.requires.i_lt_clauses _ c.clause_at-clause.ensures

pub all_stay_by-requires : goal.all_stay_by-requires
all_stay_by-requires c = clause-small c.requires.readable c.args.i c.requires.i_lt_clauses _ c.clause_at-clause.ensures

pub raise-requires : goal.raise-requires
raise-requires c =
    let b = bounds c.requires.readable.held in
    omega (arith, c.requires.i_lt_clauses)

pub returns-then-all_stay_by : goal.returns-then-all_stay_by
returns-then-all_stay_by c = λ φ o h m g. rw c.raise.ensures (going-flagged _ _ _ _ φ.clauses (few h) _ _ _ g _ (c.clause_at-clause.ensures φ h) c.contains.ensures (omega (arith, c.requires.i_lt_clauses, count-clauses h)) c.if-not-contains.false)

pub is_free-requires : goal.is_free-requires
is_free-requires c = clause-small c.requires.readable c.args.i c.requires.i_lt_clauses _ c.clause_at-clause.ensures

pub is_stood_for-requires-clause-i_lt_clauses : goal.is_stood_for-requires-clause-i_lt_clauses
is_stood_for-requires-clause-i_lt_clauses c = (c.requires.i_lt_clauses, clause-small c.requires.readable c.args.i c.requires.i_lt_clauses _ c.clause_at-clause.ensures)

pub returns-then-is_stood_for : goal.returns-then-is_stood_for
returns-then-is_stood_for c =
    λ φ o h m g. going-left _ _ _ _ φ.clauses (few h) _ _ _ g _ (c.clause_at-clause.ensures φ h) c.contains.ensures (omega (arith, c.requires.i_lt_clauses, count-clauses h)) _ c.last_by-own.ensures
    (free-of _ _ o φ.clauses _ m _ _ c.last_by-own.ensures c.is_free.ensures c.if-not-is_free.false)
    (c.is_stood_for.ensures c.if-is_stood_for.true φ h)

pub raise-requires-2 : goal.raise-requires-2
raise-requires-2 c =
    let b = bounds c.requires.readable.held in
    omega (arith, c.requires.i_lt_clauses)

pub raise-requires-3 : goal.raise-requires-3
raise-requires-3 c =
    let b = bounds c.requires.readable.held in
    omega (arith, c.requires.i_lt_clauses)

pub returns : goal.returns
returns c =
    λ φ o h m g. rw (c.raise-3.ensures, c.raise-2.ensures) (going-standing _ _ _ _ φ.clauses (few h) _ _ _ g _ (c.clause_at-clause.ensures φ h) c.contains.ensures (omega (arith, c.requires.i_lt_clauses, count-clauses h)) _ c.last_by-own.ensures
    (free-of _ _ o φ.clauses _ m _ _ c.last_by-own.ensures c.is_free.ensures c.if-not-is_free.false)
    c.if-not-contains.false)
