-- It stands in the list of the literal.
-- Assumes nothing.
use mathlib.Core.Path.{ap}
use Prim.Native.Nat.{ℕ}
use mathlib.Core.List.{List}
use lib.ListN.{get_or}
use native.Mathlib.Omega.{arith}
use Rattle.sides.proofs.FileLaws.{listed-there, listed-few}
use Rattle.sides.proofs.sides.number_with.Goals as goal

pub offset_bounds-list-i : goal.offset_bounds-list-i
offset_bounds-list-i c = omega (arith, c.requires.i_in_bounds c.requires.indexed.formula c.requires.indexed.indexes, listed-few c.requires.indexed.indexes c.args.literal)

pub bounds-list-i : goal.bounds-list-i
bounds-list-i c = listed-there c.requires.indexed.formula.clauses _ _ (c.clauses_with-list.ensures c.requires.indexed.formula c.requires.indexed.indexes) _ (c.requires.i_in_bounds c.requires.indexed.formula c.requires.indexed.indexes)

pub returns : goal.returns
returns c = λ φ h. ap (λ (s : List ℕ). get_or s c.args.i 0) (c.clauses_with-list.ensures φ h)
