-- The loop's invariant: the clauses that are left decide.
-- Assumes nothing.
use Rattle.index.proofs.ReadLaws.{study-in}
use mathlib.Core.Path.{sym, ap, ◌∙◌}
use mathlib.Core.List.{[]}
use native.Mathlib.Omega.{arith}
use Rattle.rules.specs.Eliminate.{with_lit}
use Rattle.permits.specs.Places.{within}
use Rattle.permits.proofs.PlaceLaws.{entries-of}
use Rattle.table.proofs.LoopLaws.{all-fails, all-turn, all_end}
use Rattle.index.proofs.ReadLaws.{studied-indexes, study-indexed}
use Rattle.sides.proofs.FileLaws.{filed-of}
use Rattle.sides.proofs.SideLaws.{within-side}
use Rattle.sides.proofs.sides.side_near.Goals as goal

pub count_with-m-requires : goal.count_with-m-requires
count_with-m-requires c = study-indexed (study-in c.args.at.now.studied)

pub loop-i-init : goal.loop-i-init
loop-i-init c = λ φ s. sym (within-side φ _ _)

pub clause_with-requires : goal.clause_with-requires
clause_with-requires c = λ φ h. omega (arith, c.count_with-m.ensures φ h)

pub loop-i-preserved : goal.loop-i-preserved
loop-i-preserved c =
    λ φ s. all-turn (within φ.prefix _) [] (with_lit _ φ.clauses) c.loop-i.i (c.loop-i.invariant φ s)
    (omega (arith, c.count_with-m.ensures φ (studied-indexes s)))
    (ap (within φ.prefix _) (sym (c.clause_with.ensures φ (filed-of s)))
    ∙ sym (c.is_within.ensures φ.prefix s.ranked (entries-of φ s.well s.holds.fitting)) ∙ c.if-not-is_within.false)

pub returns-then-not-is_within : goal.returns-then-not-is_within
returns-then-not-is_within c =
    λ φ s. all-fails (within φ.prefix _) [] (with_lit _ φ.clauses) c.loop-i.i (c.loop-i.invariant φ s)
    (omega (arith, c.count_with-m.ensures φ (studied-indexes s)))
    (ap (within φ.prefix _) (sym (c.clause_with.ensures φ (filed-of s)))
    ∙ sym (c.is_within.ensures φ.prefix s.ranked (entries-of φ s.well s.holds.fitting)) ∙ c.if-not-is_within.true)

pub returns : goal.returns
returns c =
    λ φ s. all_end (within φ.prefix _) [] (with_lit _ φ.clauses) c.loop-i.i (c.loop-i.invariant φ s)
    (omega (arith, c.count_with-m.ensures φ (studied-indexes s)))
