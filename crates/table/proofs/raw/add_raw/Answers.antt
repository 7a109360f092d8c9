-- Every literal is put, then the clause is closed.
-- Assumes nothing.
use borrow.Author.Rules.{rules}
use mathlib.Core.List.{[]}
use Rattle.table.proofs.PendingLaws.{pends-empty, pended}
use Rattle.table.proofs.raw.add_raw.Goals as goal

pub put_clause-p-requires-clause-pended : goal.put_clause-p-requires-clause-pended
put_clause-p-requires-clause-pended c = pended (pends-empty _ (search rules))

pub put_clause-p-requires-clause-clause_value : goal.put_clause-p-requires-clause-clause_value
put_clause-p-requires-clause-clause_value c = c.requires.scratch_len

pub close_clause-requires-clause-held : goal.close_clause-requires-clause-held
close_clause-requires-clause-held c = c.requires.held

pub close_clause-requires-clause-pended : goal.close_clause-requires-clause-pended
close_clause-requires-clause-pended c = pended (c.put_clause-p.ensures [] (pends-empty _ (search rules)))

pub returns : goal.returns
returns c = λ φ h g e. c.close_clause.ensures φ _ h g e (c.put_clause-p.ensures [] (pends-empty _ (search rules)))
