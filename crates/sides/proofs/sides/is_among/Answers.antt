-- The loop's invariant: the clauses that are left decide.
-- Assumes nothing.
use Rattle.index.proofs.ReadLaws.{study-in}
use mathlib.Core.Path.{refl, sym, ap, ◌∙◌}
use mathlib.Core.List.{[]}
use native.Mathlib.Omega.{arith}
use Rattle.meaning.specs.Lists.{same}
use Rattle.rules.specs.Eliminate.{with_lit}
use Rattle.table.proofs.LoopLaws.{any_found, any-turn, any-end}
use Rattle.sides.proofs.FileLaws.{file-of, file-indexed}
use Rattle.sides.proofs.sides.is_among.Goals as goal

pub count_with-n-requires : goal.count_with-n-requires
count_with-n-requires c = file-indexed (file-of (study-in c.args.at.now.studied))

pub loop-i-init : goal.loop-i-init
loop-i-init c = λ φ f. refl

pub clause_with-requires : goal.clause_with-requires
clause_with-requires c = λ φ h. omega (arith, c.count_with-n.ensures φ h)

pub returns-then-equal : goal.returns-then-equal
returns-then-equal c =
    λ φ f. any_found (same _) [] (with_lit _ φ.clauses) c.loop-i.i (c.loop-i.invariant φ f)
    (omega (arith, c.count_with-n.ensures φ f.indexes))
    (ap (same _) (sym (c.clause_with.ensures φ f)) ∙ sym c.equal.ensures ∙ c.if-equal.true)

pub loop-i-preserved : goal.loop-i-preserved
loop-i-preserved c =
    λ φ f. any-turn (same _) [] (with_lit _ φ.clauses) c.loop-i.i (c.loop-i.invariant φ f)
    (omega (arith, c.count_with-n.ensures φ f.indexes))
    (ap (same _) (sym (c.clause_with.ensures φ f)) ∙ sym c.equal.ensures ∙ c.if-equal.false)

pub returns : goal.returns
returns c =
    λ φ f. any-end (same _) [] (with_lit _ φ.clauses) c.loop-i.i (c.loop-i.invariant φ f)
    (omega (arith, c.count_with-n.ensures φ f.indexes))
