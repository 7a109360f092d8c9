-- Assumes nothing.
use native.Mathlib.Omega.{arith}
use Rattle.weigh.proofs.ResolvFile.{pairs-are, pairs-few}
use Rattle.weigh.proofs.pairing.pair_count.Goals as goal

pub overflow_mul-result : goal.overflow_mul-result
overflow_mul-result c =
    omega (
      arith,
      pairs-are c.requires.indexed.formula c.args.a _ _ (c.count_with.ensures c.requires.indexed.formula c.requires.indexed.indexes)
          (c.count_with-2.ensures c.requires.indexed.formula c.requires.indexed.indexes),
      pairs-few c.requires.indexed.indexes c.args.a,
    )

pub returns : goal.returns
returns c = λ φ h. pairs-are φ c.args.a _ _ (c.count_with.ensures φ h) (c.count_with-2.ensures φ h)
