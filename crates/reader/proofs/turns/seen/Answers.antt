-- A variable over 1,023 is in no prefix; another one by its rank.
-- Assumes nothing.
use mathlib.Core.Path.{◌∙◌}
use borrow.Author.Tests.{lt-leb}
use Rattle.reader.proofs.SeenLaws.{seen-large, seen-rank}
use Rattle.reader.proofs.turns.seen.Goals as goal

pub returns-then-v-le1023 : goal.returns-then-v-le1023
returns-then-v-le1023 c = λ p h e. seen-rank p _ _ e c.if-v-le1023.true

pub returns-else-v-le1023 : goal.returns-else-v-le1023
returns-else-v-le1023 c = λ p h e. lt-leb c.args.v 1023 c.if-v-le1023.false ∙ seen-large p _ h c.if-v-le1023.false
