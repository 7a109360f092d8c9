use Rattle.std.proofs.Common.{◌∙◌, sym}
use Rattle.meaning.proofs.StdLists.{same-std}
use Rattle.table.proofs.tests.equal.Goals as goal

pub returns : goal.returns
returns c = c.eq.ensures ∙ sym (same-std _ _)
