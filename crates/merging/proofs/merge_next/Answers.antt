-- Each way of a turn has its law.
-- Assumes nothing.
use native.Mathlib.Omega.{arith}
use Rattle.merging.proofs.MergeTurns.{pass-one, pass-other, one-room, put_one, other-room, put_other, both-room, put_both, met-both}
use Rattle.merging.proofs.merge_next.Goals as goal

pub returns-then-l-out : goal.returns-then-l-out
returns-then-l-out c = (omega (arith, c.requires.out_bound.1), pass-one c.args.out _ _ _ c.args.m c.requires.merges c.requires.out_bound.0 c.requires.out_bound.1 _ c.head_at-l.ensures c.if-l-out.true)

pub returns-then-k-out : goal.returns-then-k-out
returns-then-k-out c = (omega (arith, c.requires.out_bound.1), pass-other c.args.out _ _ _ c.args.m c.requires.merges c.requires.out_bound.0 c.requires.out_bound.1 _ c.head_at-k.ensures c.if-k-out.true)

pub bounds-scratch-n : goal.bounds-scratch-n
bounds-scratch-n c = omega (arith, c.requires.merges.room, one-room c.args.out _ _ _ c.args.m c.requires.merges c.requires.out_bound.0 c.requires.out_bound.1 _ _ c.head_at-l.ensures c.head_at-k.ensures c.if-l-k.true)

pub returns-then-l-k : goal.returns-then-l-k
returns-then-l-k c = (omega (arith, c.requires.out_bound.1), put_one c.args.out _ _ _ c.args.m c.requires.merges c.requires.out_bound.0 c.requires.out_bound.1 _ _ c.head_at-l.ensures c.head_at-k.ensures c.if-l-k.true c.if-l-out.false)

pub bounds-scratch-n-then-k-l : goal.bounds-scratch-n-then-k-l
bounds-scratch-n-then-k-l c = omega (arith, c.requires.merges.room, other-room c.args.out _ _ _ c.args.m c.requires.merges c.requires.out_bound.0 c.requires.out_bound.1 _ _ c.head_at-l.ensures c.head_at-k.ensures c.if-k-l.true)

pub returns-then-k-l : goal.returns-then-k-l
returns-then-k-l c = (omega (arith, c.requires.out_bound.1), put_other c.args.out _ _ _ c.args.m c.requires.merges c.requires.out_bound.0 c.requires.out_bound.1 _ _ c.head_at-l.ensures c.head_at-k.ensures c.if-k-l.true c.if-k-out.false)

pub bounds-scratch-n-then-l-k-2 : goal.bounds-scratch-n-then-l-k-2
bounds-scratch-n-then-l-k-2 c = omega (arith, c.requires.merges.room, both-room c.args.out _ _ _ c.args.m c.requires.merges c.requires.out_bound.0 c.requires.out_bound.1 _ _ c.head_at-l.ensures c.head_at-k.ensures c.if-l-k-2.true)

pub returns-then-l-k-2 : goal.returns-then-l-k-2
returns-then-l-k-2 c = (omega (arith, c.requires.out_bound.1), put_both c.args.out _ _ _ c.args.m c.requires.merges c.requires.out_bound.0 c.requires.out_bound.1 _ _ c.head_at-l.ensures c.head_at-k.ensures c.if-l-k-2.true c.if-l-out.false c.if-k-out.false)

pub returns : goal.returns
returns c = met-both c.args.out _ _ _ c.args.m c.requires.merges c.requires.out_bound.0 c.requires.out_bound.1 _ _ c.head_at-l.ensures c.head_at-k.ensures
    (omega (arith, c.if-k-l.false, c.if-l-k.false)) c.if-l-k-2.false c.if-l-out.false c.if-k-out.false
