use Rattle.std.proofs.Common.{◌≡◌, ◌∙◌, sym, eqb}
use Rattle.std.specs.List.{list_any}
use Rattle.meaning.proofs.StdLists.{has-std}
use Rattle.table.proofs.tests.contains.Goals as goal

pub returns : goal.returns
returns c = let k : c.contains.result ≡ list_any (λ y. eqb y c.args.literal) c.args.clause.now = c.contains.ensures.value in k ∙ sym (has-std _ _)
