-- The loop's invariant: the variables that are left go on from the standing, and the first universal from the next one on is known.
-- Assumes nothing.
use mathlib.Core.Path.{refl, sym, ◌∙◌}
use native.Mathlib.Omega.{arith}
use lib.Seq.{length-take-le}
use Rattle.rules.specs.Entry.{resolve}
use Rattle.table.proofs.HoldLaws.{bounds, held}
use Rattle.choice.proofs.TurnLaws.{consider-turn, resolve-best}
use Rattle.choice.proofs.UniversalLaws.{universal-at}
use Rattle.choice.proofs.lightest.best_resolve.Goals as goal

pub overflow_add-c : goal.overflow_add-c
overflow_add-c c = let b = bounds (held c.args.at.now.studied.holds) in omega arith

pub overflow_add-c-2 : goal.overflow_add-c-2
overflow_add-c-2 c = let b = bounds (held c.args.at.now.studied.holds) in omega arith

pub slice_bounds-first_universal-end : goal.slice_bounds-first_universal-end
slice_bounds-first_universal-end c = let b = bounds (held c.args.at.now.studied.holds) in sym (length-take-le _ _ (omega arith))

pub loop-i-init : goal.loop-i-init
loop-i-init c = (c.first_universal-n.ensures, λ φ r. refl)

pub slice_bounds-next_universal-end : goal.slice_bounds-next_universal-end
slice_bounds-next_universal-end c =
    let b = bounds (held c.args.at.now.studied.holds) in
    sym (length-take-le _ _ (omega arith))

pub next_universal-n-requires : goal.next_universal-n-requires
next_universal-n-requires c =
    let b = bounds (held c.args.at.now.studied.holds) in
    let e = length-take-le c.args.at.now.counts.variables c.args.at.now.table.now (omega arith) in
    (omega (arith, e), omega (arith, e), c.loop-i.invariant.0)

pub offset_bounds-t-i : goal.offset_bounds-t-i
offset_bounds-t-i c = let b = bounds (held c.args.at.now.studied.holds) in omega arith

pub bounds-t-i : goal.bounds-t-i
bounds-t-i c = let b = bounds (held c.args.at.now.studied.holds) in omega arith

pub overflow_cast-v : goal.overflow_cast-v
overflow_cast-v c = omega (arith, c.type_inv.t c.loop-i.i)

pub weigh_resolve-w-requires : goal.weigh_resolve-w-requires
weigh_resolve-w-requires c = record { first_universal = λ φ r. universal-at r.holds r.well c.loop-i.i c.next_universal-n.result _ (omega arith) refl c.next_universal-n.ensures }

pub loop-i-preserved : goal.loop-i-preserved
loop-i-preserved c = (
  c.next_universal-n.ensures,
  λ φ r. c.loop-i.invariant.1 φ r ∙ consider-turn r.holds resolve c.loop-i.s c.loop-i.i (omega arith) _ refl _ (c.weigh_resolve-w.ensures φ r) _ c.after-s.ensures,
)

pub returns : goal.returns
returns c = λ φ E r. resolve-best r.holds E _ c.loop-i.s c.loop-i.i (omega arith) c.new-s.ensures (c.loop-i.invariant.1 φ r)
