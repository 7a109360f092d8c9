use Rattle.scan.proofs.Numbers.{Digits}
use Rattle.scan.proofs.words.read_digits.Given as goal

-- v, and the digits that are left, have the value of the whole up to the cut
abbrev pub invariant-loop-b : goal.invariant-loop-b
invariant-loop-b l = Digits l.word l.b-index l.v
