-- The loop's invariant: the sum, and the literals of the clauses that are left, are all.
-- Assumes nothing.
use Rattle.index.proofs.ReadLaws.{study-in}
use native.Mathlib.Omega.{arith}
use Rattle.rules.specs.Eliminate.{with_lit}
use Rattle.sides.proofs.FileLaws.{file-of, file-indexed}
use Rattle.sides.proofs.SideLaws.{size-turn, size-end, size_room}
use Rattle.sides.proofs.sides.side_size.Goals as goal

pub count_with-n-requires : goal.count_with-n-requires
count_with-n-requires c = file-indexed (file-of (study-in c.args.at.now.studied))

pub loop-i-init : goal.loop-i-init
loop-i-init c = λ φ f. omega arith

pub clause_with-clause-requires : goal.clause_with-clause-requires
clause_with-clause-requires c = λ φ h. omega (arith, c.count_with-n.ensures φ h)

pub overflow_add-sum : goal.overflow_add-sum
overflow_add-sum c =
    let k = size-turn (with_lit _ (file-of (study-in c.args.at.now.studied)).formula.clauses) _ c.loop-i.i (c.loop-i.invariant (file-of (study-in c.args.at.now.studied)).formula (file-of (study-in c.args.at.now.studied)).filed)
    (omega (arith, c.count_with-n.ensures (file-of (study-in c.args.at.now.studied)).formula (file-of (study-in c.args.at.now.studied)).filed.indexes)) _ (c.clause_with-clause.ensures (file-of (study-in c.args.at.now.studied)).formula (file-of (study-in c.args.at.now.studied)).filed) in
    omega (arith, size_room (file-of (study-in c.args.at.now.studied)).filed c.args.literal)

pub loop-i-preserved : goal.loop-i-preserved
loop-i-preserved c =
    λ φ f. size-turn (with_lit _ φ.clauses) _ c.loop-i.i (c.loop-i.invariant φ f)
    (omega (arith, c.count_with-n.ensures φ f.indexes)) _ (c.clause_with-clause.ensures φ f)

pub returns : goal.returns
returns c = λ φ f. size-end (with_lit _ φ.clauses) _ c.loop-i.i (c.loop-i.invariant φ f) (omega (arith, c.count_with-n.ensures φ f.indexes))
