-- As many zeros as a table has places.
-- Assumes nothing.
use Prim.Native.Nat.{ℕ}
use mathlib.Core.Path.{ap, ◌∙◌}
use lib.ListN.{replicate}
use Rattle.table.proofs.TableLaws.{table_empty}
use Rattle.table.proofs.clauses.zero.Goals as goal

pub returns : goal.returns
returns c = c.clear.ensures ∙ ap (λ (n : ℕ). replicate n 0) c.requires ∙ table_empty
