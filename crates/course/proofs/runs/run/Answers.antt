-- The loop's invariant: so many steps are done, and what is left makes the whole run.
-- Assumes nothing.
use Prim.Native.Nat.{◌*◌}
use mathlib.Core.Path.{refl, sym, ◌∙◌}
use native.Mathlib.Omega.{arith}
use lib.ListN.{length-take, length-drop}
use Rattle.rules.specs.Run.{run}
use Rattle.course.proofs.HereLaws.{here-lends, here-lent, lends-here}
use Rattle.course.proofs.RunLaws.{turns-start, turns-chosen, turns-searched, turns-known, turns-over, turns_stopped, turns_next, entry-written}
use borrow.Author.Rules.{rules}
use Rattle.course.proofs.runs.run.Goals as goal

pub loop-end-init : goal.loop-end-init
loop-end-init c = (omega arith, refl, refl, refl, λ φ h. turns-start φ _ _ _ _ h)

pub choose_between-chosen-requires : goal.choose_between-chosen-requires
choose_between-chosen-requires c = let t = c.loop-end.invariant.4 c.requires.0.formula (lends-here c.requires.0.lends (c.clear_spare.ensures c.requires.0.formula c.requires.0.lends)) in (here-lent t.here, turns-searched c.requires.0.formula _ _ _ _ t, c.requires.1)

pub returns-in-Over : goal.returns-in-Over
unfolding run
returns-in-Over c =
    λ φ h.
    let t = c.loop-end.invariant.4 φ (lends-here h (c.clear_spare.ensures φ h)) in
    let q = c.choose_between-chosen.ensures t.formula (here-lends t.here) in
    rw (c.over.ensures, sym c.min-room.ensures) (turns-over φ _ _ _ _ t _ (sym c.in-Over.is ∙ q.0) (turns-chosen φ _ _ _ _ t q.2).stands)

pub returns-then-n-room : goal.returns-then-n-room
unfolding run
returns-then-n-room c =
    λ φ h.
    let t = c.loop-end.invariant.4 φ (lends-here h (c.clear_spare.ensures φ h)) in
    let q = c.choose_between-chosen.ensures t.formula (here-lends t.here) in
    rw (sym c.min-room.ensures) (turns_stopped φ _ _ _ _ t _ (sym c.in-Step.is ∙ q.0) c.if-n-room.true (turns-chosen φ _ _ _ _ t q.2).stands)

pub slice_bounds-put_entry-count : goal.slice_bounds-put_entry-count
slice_bounds-put_entry-count c = omega (arith, c.loop-end.invariant.0, c.loop-end.invariant.3, c.min-room.ensures, c.if-n-room.false)

pub slice_bounds-put_entry-start : goal.slice_bounds-put_entry-start
slice_bounds-put_entry-start c = omega (arith, c.loop-end.invariant.0, c.loop-end.invariant.3, c.min-room.ensures, c.if-n-room.false)

pub put_entry-requires : goal.put_entry-requires
put_entry-requires c = simp (length-take, length-drop) (omega (arith, c.loop-end.invariant.0, c.loop-end.invariant.3, c.min-room.ensures, c.if-n-room.false))

pub advance-d-requires : goal.advance-d-requires
advance-d-requires c =
    let t = c.loop-end.invariant.4 c.requires.0.formula (lends-here c.requires.0.lends (c.clear_spare.ensures c.requires.0.formula c.requires.0.lends)) in
    let q = c.choose_between-chosen.ensures t.formula (here-lends t.here) in
    let h = turns-chosen c.requires.0.formula _ _ _ _ t q.2 in (here-lent h, turns-known c.requires.0.formula _ _ _ _ t _ (sym c.in-Step.is ∙ q.0) h)

pub loop-end-preserved : goal.loop-end-preserved
loop-end-preserved c = (
  omega (arith, c.loop-end.invariant.0, c.if-n-room.false),
  c.advance-d.auto.first ∙ c.choose_between-chosen.auto.first ∙ c.loop-end.invariant.1,
  c.advance-d.auto.second ∙ c.choose_between-chosen.auto.second ∙ c.loop-end.invariant.2,
  search rules,
  λ φ h.
      let t = c.loop-end.invariant.4 φ h in
      let q = c.choose_between-chosen.ensures t.formula (here-lends t.here) in
      turns_next φ _ _ _ _ t _ (sym c.in-Step.is ∙ q.0) (omega (arith, c.loop-end.invariant.0, c.if-n-room.false))
      q.1
      (λ χ i. c.advance-d.ensures t.formula χ (here-lends (turns-chosen φ _ _ _ _ t q.2)) i)
      (entry-written c.loop-end.log _ (4 * c.loop-end.n) _ c.put_entry.ensures),
)
