-- The clauses with one of the two literals and those without the variable are all clauses.
-- Assumes nothing.
use native.Mathlib.Omega.{arith}
use Rattle.index.proofs.ReadLaws.{study-in}
use Rattle.sides.proofs.FileLaws.{file-of}
use Rattle.table.proofs.HoldLaws.{holds-bounds}
use Rattle.weigh.proofs.ResolvStart.{left-clauses, left-literals, left-bounded, left-counts}
use Rattle.weigh.proofs.resolving.counts_left.Goals as goal

pub overflow_add-clauses : goal.overflow_add-clauses
overflow_add-clauses c =
    let b = holds-bounds (file-of (study-in c.args.at.now.studied)).filed.holds in
    omega (
      arith,
      left-clauses (file-of (study-in c.args.at.now.studied)).filed c.args.a _ _ (c.count_with.ensures (file-of (study-in c.args.at.now.studied)).formula (file-of (study-in c.args.at.now.studied)).filed.indexes)
          (c.count_with-2.ensures (file-of (study-in c.args.at.now.studied)).formula (file-of (study-in c.args.at.now.studied)).filed.indexes),
    )

pub overflow_add-literals : goal.overflow_add-literals
overflow_add-literals c =
    let b = holds-bounds (file-of (study-in c.args.at.now.studied)).filed.holds in
    omega (
      arith,
      left-literals (file-of (study-in c.args.at.now.studied)).filed c.args.a _ _ (c.side_size.ensures (file-of (study-in c.args.at.now.studied)).formula (file-of (study-in c.args.at.now.studied)).filed)
          (c.side_size-2.ensures (file-of (study-in c.args.at.now.studied)).formula (file-of (study-in c.args.at.now.studied)).filed),
    )

pub overflow_sub-result-2 : goal.overflow_sub-result-2
overflow_sub-result-2 c =
    omega (
      arith,
      left-clauses (file-of (study-in c.args.at.now.studied)).filed c.args.a _ _ (c.count_with.ensures (file-of (study-in c.args.at.now.studied)).formula (file-of (study-in c.args.at.now.studied)).filed.indexes)
          (c.count_with-2.ensures (file-of (study-in c.args.at.now.studied)).formula (file-of (study-in c.args.at.now.studied)).filed.indexes),
    )

pub overflow_sub-result-3 : goal.overflow_sub-result-3
overflow_sub-result-3 c =
    omega (
      arith,
      left-literals (file-of (study-in c.args.at.now.studied)).filed c.args.a _ _ (c.side_size.ensures (file-of (study-in c.args.at.now.studied)).formula (file-of (study-in c.args.at.now.studied)).filed)
          (c.side_size-2.ensures (file-of (study-in c.args.at.now.studied)).formula (file-of (study-in c.args.at.now.studied)).filed),
    )

pub returns-clause-bounded : goal.returns-clause-bounded
returns-clause-bounded c = left-bounded (file-of (study-in c.args.at.now.studied)).filed _ _

pub returns-clause-value : goal.returns-clause-value
returns-clause-value c = λ φ f i. left-counts f _ _ c.args.a i
    (left-clauses f c.args.a _ _ (c.count_with.ensures φ f.indexes) (c.count_with-2.ensures φ f.indexes))
    (left-literals f c.args.a _ _ (c.side_size.ensures φ f) (c.side_size-2.ensures φ f))
