use mathlib.Core.Path.{◌≡◌}
use mathlib.Core.Bool.{false}
use Prim.Native.Nat.{◌+◌}
use lib.ListN.{drop}
use Rattle.qdimacs.specs.Bytes.{preamble}
use Rattle.scan.proofs.bytes.skip_preamble.Given as goal

-- what is passed and the comments and blanks of what is left make the whole; `comment` says whether one is running
abbrev pub invariant-loop-i : goal.invariant-loop-i
invariant-loop-i l = preamble false l.text ≡ l.i + preamble l.comment (drop l.i l.text)
