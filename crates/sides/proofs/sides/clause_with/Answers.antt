-- Its number stands in the list of the literal.
-- Assumes nothing.
use Rattle.index.proofs.ReadLaws.{study-in}
use mathlib.Core.Path.{refl, ◌∙◌}
use native.Mathlib.Omega.{arith}
use Rattle.table.proofs.HoldLaws.{count-clauses}
use Rattle.sides.proofs.FileLaws.{file-of, file-held, file-indexed, listed_below, listed-clause}
use Rattle.sides.proofs.sides.clause_with.Goals as goal

pub number_with-requires-clause-indexed : goal.number_with-requires-clause-indexed
number_with-requires-clause-indexed c = file-indexed (file-of (study-in c.args.at.now.studied))

pub clause_at-requires-clause-held : goal.clause_at-requires-clause-held
clause_at-requires-clause-held c = file-held (file-of (study-in c.args.at.now.studied))

pub clause_at-requires-clause-i_lt_clauses : goal.clause_at-requires-clause-i_lt_clauses
clause_at-requires-clause-i_lt_clauses c =
    let f = (file-of (study-in c.args.at.now.studied)) in
    omega (
      arith,
      count-clauses f.filed.holds,
      c.number_with.ensures f.formula f.filed.indexes,
      listed_below f.formula.clauses _ _ refl _ (c.requires f.formula f.filed.indexes),
    )

pub returns : goal.returns
returns c = λ φ f.
    c.clause_at.ensures φ f.holds
    ∙ (rw (c.number_with.ensures φ f.indexes) (listed-clause φ.clauses c.args.literal _ refl _ (c.requires φ f.indexes)))
