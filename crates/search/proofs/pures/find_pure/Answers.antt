-- The loop's invariant: the candidate is among the variables that are left.
-- Assumes nothing.
use Prim.Native.Nat.{◌/◌}
use mathlib.Core.Path.{refl}
use native.Mathlib.Omega.{arith}
use lib.ListN.{get_or}
use Rattle.rules.specs.Entry.{pure, uses_b}
use Rattle.rules.specs.Step.{permitted}
use Rattle.rules.specs.Choice.{costly, firsts}
use Rattle.std.specs.Prelude.{Some, None}
use Rattle.table.proofs.HoldLaws.{bounds}
use Rattle.search.proofs.CandidateLaws.{from_start, only_none, only-found, by-variable, walk-next, walk-found, walk_end}
use Rattle.search.proofs.LoneLaws.{pure-is}
use Rattle.search.proofs.pures.find_pure.Goals as goal

pub loop-i-init : goal.loop-i-init
unfolding costly
loop-i-init c = λ φ E h x. from_start E φ pure refl

pub offset_bounds-t-i : goal.offset_bounds-t-i
offset_bounds-t-i c = let b = bounds c.requires.held in omega arith

pub bounds-t-i : goal.bounds-t-i
bounds-t-i c = let b = bounds c.requires.held in omega arith

pub is_lone-requires-clause-v_bound : goal.is_lone-requires-clause-v_bound
is_lone-requires-clause-v_bound c = omega (arith, c.type_inv.t c.loop-i.i)

pub overflow_cast-result : goal.overflow_cast-result
overflow_cast-result c = omega (arith, c.type_inv.t c.loop-i.i)

pub returns-then-is_lone : goal.returns-then-is_lone
unfolding uses_b permitted firsts
returns-then-is_lone c =
    let v = get_or c.args.t.now c.loop-i.i 0 / 2 in
    λ φ E h x. walk-found (by-variable h pure refl) E c.loop-i.i (c.loop-i.invariant φ E h x) (omega arith) (Some (v, 0))
    (only-found φ pure v refl _ (pure-is h c.loop-i.i (omega arith) _ (c.is_lone.ensures φ x)) c.if-is_lone.true) refl

pub loop-i-preserved : goal.loop-i-preserved
unfolding uses_b permitted firsts
loop-i-preserved c =
    let v = get_or c.args.t.now c.loop-i.i 0 / 2 in
    λ φ E h x. walk-next (by-variable h pure refl) E c.loop-i.i (c.loop-i.invariant φ E h x) (omega arith) None
    (only_none φ pure v refl _ (pure-is h c.loop-i.i (omega arith) _ (c.is_lone.ensures φ x)) c.if-is_lone.false) refl

pub returns : goal.returns
unfolding firsts
returns c = λ φ E h x. walk_end (by-variable h pure refl) E c.loop-i.i (c.loop-i.invariant φ E h x) (omega arith)
