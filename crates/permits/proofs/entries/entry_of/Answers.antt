-- The three fields fit 32 bits.
-- Assumes nothing.
use Rattle.permits.proofs.CallLaws.{entry-is}
use Rattle.permits.proofs.entries.entry_of.Goals as goal

pub returns : goal.returns
returns c = λ k e. entry-is k _ _ _ e
