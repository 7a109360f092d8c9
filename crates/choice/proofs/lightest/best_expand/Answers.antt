-- The loop's invariant: the variables that are left go on from the standing.
-- Assumes nothing.
use mathlib.Core.Path.{refl, ◌∙◌}
use native.Mathlib.Omega.{arith}
use Rattle.rules.specs.Entry.{expand}
use Rattle.table.proofs.HoldLaws.{bounds}
use Rattle.choice.proofs.TurnLaws.{consider-turn, expand-best, ranked-held}
use Rattle.choice.proofs.lightest.best_expand.Goals as goal

pub overflow_add-c : goal.overflow_add-c
overflow_add-c c = let b = bounds (ranked-held c.requires.0) in omega arith

pub overflow_add-c-2 : goal.overflow_add-c-2
overflow_add-c-2 c = let b = bounds (ranked-held c.requires.0) in omega (arith, c.requires.1)

pub overflow_add-c-3 : goal.overflow_add-c-3
overflow_add-c-3 c = let b = bounds (ranked-held c.requires.0) in omega (arith, c.requires.1)

pub overflow_add-c-4 : goal.overflow_add-c-4
overflow_add-c-4 c = let b = bounds (ranked-held c.requires.0) in omega (arith, c.requires.1)

pub loop-i-init : goal.loop-i-init
loop-i-init c = λ φ r. refl

pub offset_bounds-t-i : goal.offset_bounds-t-i
offset_bounds-t-i c = let b = bounds (ranked-held c.requires.0) in omega arith

pub bounds-t-i : goal.bounds-t-i
bounds-t-i c = let b = bounds (ranked-held c.requires.0) in omega arith

pub overflow_cast-v : goal.overflow_cast-v
overflow_cast-v c = omega (arith, c.type_inv.t c.loop-i.i)

pub weigh_expand-w-requires : goal.weigh_expand-w-requires
weigh_expand-w-requires c = ranked-held c.requires.0

pub loop-i-preserved : goal.loop-i-preserved
loop-i-preserved c = λ φ r. c.loop-i.invariant φ r ∙ consider-turn r.holds expand c.loop-i.s c.loop-i.i (omega arith) _ refl _ (c.weigh_expand-w.ensures φ r.holds r.well r.ranked r.apart) _ c.after-s.ensures

pub returns : goal.returns
returns c = λ φ r. expand-best r.holds _ _ c.loop-i.s c.loop-i.i (omega arith) c.new-s.ensures (c.loop-i.invariant φ r)
