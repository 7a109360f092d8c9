-- The number at the literal's place.
-- Assumes nothing.
use native.Mathlib.Omega.{arith}
use Rattle.index.proofs.TallyLaws.{tally-length, tally-is, tally-none}
use Rattle.index.proofs.tallies.times_in.Goals as goal

pub returns-then-literal-gt2047 : goal.returns-then-literal-gt2047
returns-then-literal-gt2047 c = λ φ h. tally-none h _ (omega arith)

pub bounds-tally-l : goal.bounds-tally-l
bounds-tally-l c = omega (arith, tally-length c.requires.tallies)

pub returns : goal.returns
returns c = λ φ h. tally-is h _ (omega arith)
