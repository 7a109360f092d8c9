-- The loop's invariant: the clauses that are left decide.
-- Assumes nothing.
use mathlib.Core.Path.{refl, sym, ap, ◌∙◌}
use mathlib.Core.List.{[]}
use native.Mathlib.Omega.{arith}
use Rattle.table.proofs.HoldLaws.{count-clauses}
use Rattle.table.proofs.LoopLaws.{all-fails, all-turn, all_end}
use Rattle.permits.specs.Places.{near, side_within}
use Rattle.permits.proofs.PlaceLaws.{entries-of}
use borrow.Author.Rules.{rules}
use Rattle.permits.proofs.resolution.side_within.Goals as goal

pub loop-i-init : goal.loop-i-init
loop-i-init c = (search rules, λ φ h w e. refl)

pub loop-i-preserved : goal.loop-i-preserved
loop-i-preserved c = (search rules, λ φ h w e. all-turn (near φ.prefix _ _) [] φ.clauses c.loop-i.i (c.loop-i.invariant.1 φ h w e) (omega (arith, count-clauses h)) (ap (near φ.prefix _ _) (sym (c.clause_at.ensures φ h)) ∙ sym (c.is_near.ensures φ.prefix e (entries-of φ w h.fitting)) ∙ c.if-not-is_near.false))

pub returns-then-not-is_near : goal.returns-then-not-is_near
unfolding side_within
returns-then-not-is_near c = λ φ h w e. all-fails (near φ.prefix _ _) [] φ.clauses c.loop-i.i (c.loop-i.invariant.1 φ h w e) (omega (arith, count-clauses h)) (ap (near φ.prefix _ _) (sym (c.clause_at.ensures φ h)) ∙ sym (c.is_near.ensures φ.prefix e (entries-of φ w h.fitting)) ∙ c.if-not-is_near.true)

pub returns : goal.returns
unfolding side_within
returns c = λ φ h w e. all_end (near φ.prefix _ _) [] φ.clauses c.loop-i.i (c.loop-i.invariant.1 φ h w e) (omega (arith, count-clauses h))
