use borrow.Author.Tests.{lt-ltb, le-ltb}
use Rattle.scan.specs.Scan.{token_start, token_end, next_in}
use Rattle.scan.proofs.bytes.next_token.Goals as goal

pub returns-then-start-text : goal.returns-then-start-text
unfolding next_in token_start token_end
returns-then-start-text c = simp (← c.skip-start.ensures, ← c.skip-end.ensures, lt-ltb _ _ c.if-start-text.true)

pub returns-else-start-text : goal.returns-else-start-text
unfolding next_in token_start token_end
returns-else-start-text c = simp (← c.skip-start.ensures, le-ltb _ _ c.if-start-text.false)
