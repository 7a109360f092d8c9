-- By the number, and by whether it has a rank.
-- Assumes nothing.
use Rattle.table.proofs.RankLaws.{new-zero, new-large, new-rank}
use Rattle.table.proofs.ranks.is_new.Goals.{then-entry-lt2-via-then-entry-lt2, then-entry-lt2-via-else-entry-lt2+then-entry-gt2047}
use Rattle.table.proofs.ranks.is_new.Goals as goal

pub returns-then-entry-lt2 : goal.returns-then-entry-lt2
returns-then-entry-lt2 c = λ p e. elim c.then-entry-lt2.branch [
  | then-entry-lt2-via-then-entry-lt2 w ↦ new-zero p _ w.if-entry-lt2.true
  | then-entry-lt2-via-else-entry-lt2+then-entry-gt2047 w ↦ new-large p _ w.if-entry-lt2.false w.if-entry-gt2047.true
]

pub returns : goal.returns
returns c = λ p e. new-rank p _ _ c.if-entry-lt2.false c.if-entry-gt2047.false e
