-- Whether a call is permitted.
-- Assumes nothing.
use Rattle.std.specs.Prelude.{Bool, false}
use Rattle.meaning.specs.Formula.{Formula}
use Rattle.rules.specs.Entry.{Call, bad, call}
use Rattle.rules.specs.Step.{permitted}

-- a bad entry permits nothing
unfoldable pub call_permitted : Formula → Call → Bool
call_permitted φ bad = false
call_permitted φ (call k a b) = permitted φ k a b
