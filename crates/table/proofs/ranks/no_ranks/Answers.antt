-- The ranks of no prefix are zeros.
-- Assumes nothing.
use Prim.Native.Nat.{ℕ}
use mathlib.Core.Path.{◌≡◌, ap, ◌∙◌}
use lib.ListN.{length, replicate}
use borrow.Author.Rules.{rules}
use Rattle.table.proofs.RankLaws.{ranks-none}
use Rattle.table.proofs.ranks.no_ranks.Goals as goal

pub returns : goal.returns
returns c = let n : length c.args.ranks.now ≡ 1024 = search rules in c.clear.ensures ∙ ap (λ (n : ℕ). replicate n 0) n ∙ ranks-none
